-- What every gate keeps: the length, the bytes past the powers, powers below d, rows, tableaus.
-- Assumes nothing.
use mathlib.Core.Path.{◌≡◌, refl, sym, ap, ◌∙◌}
use mathlib.Core.Bool.{Bool, true, false, cond}
use mathlib.Core.List.{List}
use Prim.Native.Nat.{ℕ, ◌+◌, ◌*◌, ◌%◌, ◌<◌}
use native.Mathlib.Nat.{add-zero, mod-lt, mod-eq_of_lt, le_refl}
use native.Mathlib.Omega.{arith}
use lib.Dec.{eqb}
use lib.ListN.{length, set, length-set}
use lib.Seq.{set-get_or}
use Rattle.modular.specs.Modular.{neg}
use Rattle.row.specs.Row.{phase_of, Powers, Row}
use Rattle.row.proofs.Laws.{powers_of}
use Rattle.tableau.specs.Tableau.{every}
use Rattle.tableau.proofs.Parts.{Keeps}
use Rattle.operation.specs.declared.Operation.{Operation}
use Rattle.operation.specs.declared.Operation.TheVariants.{Fourier, PhaseGate, Sum, Cz, Swap, Multiplier, Measure, Reset, Correct}
use Rattle.operation.specs.Operation.{allowed}
use Rattle.operation.specs.Gate.{gate_powers, gate_phase, gate_row}
use Rattle.operation.proofs.Operands.{distinct-facts, single-facts, pair-facts}
use Rattle.operation.proofs.Stores.{Past, past_same, past_store, powers_store, row-phase}

module _ (d n : ℕ) where
  pub gate-powers-length : (op : Operation) (v : List ℕ) → length (gate_powers d n op v) ≡ length v
  unfolding gate_powers
  gate-powers-length (Fourier q k) v = simp length-set
  gate-powers-length (PhaseGate q k) v = simp length-set
  gate-powers-length (Sum c t k) v = simp length-set
  gate-powers-length (Cz c t k) v = simp length-set
  gate-powers-length (Swap c t) v = simp length-set
  gate-powers-length (Multiplier q u) v = simp length-set
  gate-powers-length (Measure q) v = refl
  gate-powers-length (Reset q) v = refl
  gate-powers-length (Correct t m) v = refl

  pub gate-row-length : (op : Operation) (v : List ℕ) → length (gate_row d n op v) ≡ length v
  unfolding gate_row
  gate-row-length op v = length-set (gate_powers d n op v) (2 * n) _ ∙ gate-powers-length op v

  pub gate-keeps : (op : Operation) → Keeps (2 * n + 1) (every (gate_row d n op))
  gate-keeps op = record { keeps = λ i v l. gate-row-length op v ∙ l }

  -- A gate's powers lie below 2n.
  pub gate-past : (op : Operation) (v : List ℕ) → allowed d n op ≡ true → Past n v (gate_powers d n op v)
  unfolding gate_powers
  gate-past (Fourier q k) v h = let l = single-facts 4 n q k h in past_store _ _ (omega arith) (past_store _ _ (omega arith) past_same)
  gate-past (PhaseGate q k) v h = let l = single-facts d n q k h in past_store _ _ (omega arith) past_same
  gate-past (Sum c t k) v h =
      let l = pair-facts d n c t k h in past_store _ _ (omega arith) (past_store _ _ (omega arith) past_same)
  gate-past (Cz c t k) v h =
      let l = pair-facts d n c t k h in past_store _ _ (omega arith) (past_store _ _ (omega arith) past_same)
  gate-past (Swap c t) v h =
      let l = distinct-facts n c t h in
      past_store _ _ (omega arith)
      (past_store _ _ (omega arith) (past_store _ _ (omega arith) (past_store _ _ (omega arith) past_same)))
  gate-past (Multiplier q u) v h =
      let l = single-facts d n q u h in past_store _ _ (omega arith) (past_store _ _ (omega arith) past_same)
  gate-past (Measure q) v h = past_same
  gate-past (Reset q) v h = past_same
  gate-past (Correct t m) v h = past_same

  pub phase-kept : (op : Operation) (v : List ℕ) → allowed d n op ≡ true → phase_of n (gate_powers d n op v) ≡ phase_of n v
  phase-kept op v h = (gate-past op v h).kept (2 * n) (le_refl (2 * n))

  -- A gate that adds nothing to the phase leaves it.
  pub plain : (op : Operation) (v : List ℕ) → allowed d n op ≡ true → Row d n v → gate_phase d n op v ≡ 0 → gate_row d n op v ≡ gate_powers d n op v
  unfolding gate_row
  plain op v h r e =
      let same : (phase_of n v + gate_phase d n op v) % d ≡ phase_of n (gate_powers d n op v) =
      ap (λ (x : ℕ). (phase_of n v + x) % d) e
      ∙ ap (λ (x : ℕ). x % d) (add-zero (phase_of n v))
      ∙ mod-eq_of_lt (r.below (2 * n) (omega arith))
      ∙ sym (phase-kept op v h) in
      ap (set (gate_powers d n op v) (2 * n)) same ∙ set-get_or (gate_powers d n op v) (2 * n) 0

  module _ (low : 0 < d) where
    fourier_x-below : (a b : ℕ) (x y : Bool) → b < d → cond x (neg d b) (cond y (neg d a) b) < d
    fourier_x-below a b true y h = mod-lt _ low
    fourier_x-below a b false true h = mod-lt _ low
    fourier_x-below a b false false h = h

    fourier_z-below : (a b : ℕ) (x y : Bool) → a < d → cond x a (cond y (neg d b) (neg d a)) < d
    fourier_z-below a b true y h = h
    fourier_z-below a b false true h = mod-lt _ low
    fourier_z-below a b false false h = mod-lt _ low

    pub fourier-powers : (q k : ℕ) (v : List ℕ) → q < n → Powers d n v → Powers d n (gate_powers d n (Fourier q k) v)
    unfolding gate_powers
    fourier-powers q k v h p =
        let a = p.below q (omega arith) in
        let b = p.below (n + q) (omega arith) in
        powers_store _ (powers_store _ p (fourier_x-below _ _ (eqb k 1) (eqb k 2) b)) (fourier_z-below _ _ (eqb k 1) (eqb k 2) a)

    pub phase_gate-powers : (q k : ℕ) (v : List ℕ) → Powers d n v → Powers d n (gate_powers d n (PhaseGate q k) v)
    unfolding gate_powers
    phase_gate-powers q k v p = powers_store _ p (mod-lt _ low)

    pub sum-powers : (c t k : ℕ) (v : List ℕ) → Powers d n v → Powers d n (gate_powers d n (Sum c t k) v)
    unfolding gate_powers
    sum-powers c t k v p = powers_store _ (powers_store _ p (mod-lt _ low)) (mod-lt _ low)

    pub cz-powers : (c t k : ℕ) (v : List ℕ) → Powers d n v → Powers d n (gate_powers d n (Cz c t k) v)
    unfolding gate_powers
    cz-powers c t k v p = powers_store _ (powers_store _ p (mod-lt _ low)) (mod-lt _ low)

    pub swap-powers : (c t : ℕ) (v : List ℕ) → c < n → t < n → Powers d n v → Powers d n (gate_powers d n (Swap c t) v)
    unfolding gate_powers
    swap-powers c t v hc ht p =
        powers_store _
        (powers_store _ (powers_store _ (powers_store _ p (p.below t (omega arith))) (p.below (n + t) (omega arith))) (p.below c (omega arith)))
        (p.below (n + c) (omega arith))

    pub multiplier-powers : (q u : ℕ) (v : List ℕ) → Powers d n v → Powers d n (gate_powers d n (Multiplier q u) v)
    unfolding gate_powers
    multiplier-powers q u v p = powers_store _ (powers_store _ p (mod-lt _ low)) (mod-lt _ low)

    pub gate-powers : (op : Operation) (v : List ℕ) → allowed d n op ≡ true → Powers d n v → Powers d n (gate_powers d n op v)
    unfolding gate_powers
    gate-powers (Fourier q k) v h p = fourier-powers q k v (single-facts 4 n q k h).0 p
    gate-powers (PhaseGate q k) v h p = phase_gate-powers q k v p
    gate-powers (Sum c t k) v h p = sum-powers c t k v p
    gate-powers (Cz c t k) v h p = cz-powers c t k v p
    gate-powers (Swap c t) v h p = let l = distinct-facts n c t h in swap-powers c t v l.0 l.1 p
    gate-powers (Multiplier q u) v h p = multiplier-powers q u v p
    gate-powers (Measure q) v h p = p
    gate-powers (Reset q) v h p = p
    gate-powers (Correct t m) v h p = p

    pub gate-row : (op : Operation) (v : List ℕ) → allowed d n op ≡ true → Row d n v → Row d n (gate_row d n op v)
    unfolding gate_row
    gate-row op v h r = row-phase (gate-powers op v h (powers_of r)) (gate-powers-length op v ∙ r.len) (mod-lt _ low)
