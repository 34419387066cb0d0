-- A gate keeps the product with its phase and the pairing, and maps a frame as it maps a row's powers.
-- Assumes nothing.
use mathlib.Core.Path.{◌≡◌, refl, ◌∙◌}
use mathlib.Core.Bool.{true, and-eq-true_iff}
use mathlib.Core.List.{List}
use Prim.Native.Nat.{ℕ, zero, suc, ◌+◌, ◌*◌, ◌≤◌, ◌<◌}
use native.Mathlib.Nat.{le_refl}
use native.Mathlib.Omega.{arith}
use lib.ListN.{take}
use lib.Seq.{take-set-le, take-set-lt, get_or-take}
use Rattle.congruence.proofs.Congruence.{Cong, cong_sym, cong_trans, small_cong}
use Rattle.symplectic.proofs.Map.{pair-map}
use Rattle.modular.specs.Dimension.{Dimension}
use Rattle.row.specs.Row.{Row, phase_of}
use Rattle.row_laws.proofs.Reading.{bytes, Denotes, Reads, denotes, reads_self, unique, reads_cong, reads-product, pairing-small, pairing-means, pairing-is}
use Rattle.operation.specs.declared.Operation.{Operation}
use Rattle.operation.specs.declared.Operation.TheVariants.{Fourier, PhaseGate, Sum, Cz, Swap, Multiplier, Measure, Reset, Correct}
use Rattle.operation.specs.Operation.{distinct, from_one, allowed}
use Rattle.operation.specs.Gate.{gate_powers, gate_row}
use Rattle.operation.proofs.Operands.{distinct-facts, single-facts}
use Rattle.operation.proofs.Gate.{gate-row}
use Rattle.conjugation.specs.Conjugation.{Homomorphism, GateKeepsPairing, GateOnFrame}
use Rattle.conjugation.proofs.Acts.{mapped, gained, Acts, acts, reads-gate}

pub gate_homomorphism : {d n : ℕ} → Dimension d → (op : Operation) → allowed d n op ≡ true → Homomorphism d n (gate_row d n op)
gate_homomorphism {d} {n} dim op h =
    record {
      rows = λ v x. gate-row d n low op v h x;
      products = λ v w x y.
          unique (gate (reads-product low (reads_self x) (reads_self y)))
          (reads_cong
          (λ s l. cong_sym (a.hom.add (bytes v) (bytes w) s l))
          (phases _ _ _ _ _ _ _ (a.hom.law (bytes v) (bytes w)))
          (reads-product low (gate (reads_self x)) (gate (reads_self y))));
    }
  where
    low : 0 < d
    low = omega (arith, dim.low)

    a : Acts d n op
    a = acts dim op h

    gate : {v : List ℕ} {u : ℕ → ℕ} {r : ℕ} → Reads d n v u r → Reads d n (gate_row d n op v) (mapped d n op u) (r + gained d n op u)
    gate = reads-gate dim op h

    phases : (r y x z g k m : ℕ) → Cong d (x + g) (k + m + z) → Cong d (r + k + (y + m) + z) (r + y + x + g)
    phases r y x z g k m c = record { p = c.q; q = c.p; eq = omega (arith, c.eq) }

pub gate-keeps-pairing : GateKeepsPairing
gate-keeps-pairing zero n dim op h v w x y = absurd (omega (arith, dim.low))
gate-keeps-pairing (suc e) n dim op h v w x y =
    small_cong
    (cong_trans (pairing-means (gate x) (gate y))
    (cong_trans (pair-map e n (mapped (suc e) n op) (gained (suc e) n op) (acts dim op h).hom (bytes v) (bytes w)) (cong_sym (pairing-is e n v w))))
    (pairing-small low n _ _)
    (pairing-small low n v w)
  where
    low : 0 < suc e
    low = omega arith

    gate : {v : List ℕ} → Row (suc e) n v → Denotes (suc e) n (gate_row (suc e) n op v) (mapped (suc e) n op (bytes v)) (phase_of n v + gained (suc e) n op (bytes v))
    gate x = denotes (reads-gate dim op h (reads_self x))

places : {n q : ℕ} → q < n → (q < 2 * n) × (n + q < 2 * n)
places l = omega arith

places-two : (n c t : ℕ) → distinct n c t ≡ true → (c < 2 * n) × (n + c < 2 * n) × (t < 2 * n) × (n + t < 2 * n)
places-two n c t h = let l = distinct-facts n c t h in omega arith

powers-on-frame : (d n : ℕ) (op : Operation) → allowed d n op ≡ true → (v : List ℕ) → take (2 * n) (gate_powers d n op v) ≡ gate_powers d n op (take (2 * n) v)
unfolding gate_powers
powers-on-frame d n (Fourier q k) h v = let (x, z) = places (single-facts 4 n q k h).0 in simp (take-set-lt, get_or-take)
powers-on-frame d n (PhaseGate q k) h v = let (x, z) = places (single-facts d n q k h).0 in simp (take-set-lt, get_or-take)
powers-on-frame d n (Sum c t k) h v = let (x, z, y, w) = places-two n c t ((and-eq-true_iff (distinct n c t) (from_one d k)).0 h).0 in simp (take-set-lt, get_or-take)
powers-on-frame d n (Cz c t k) h v = let (x, z, y, w) = places-two n c t ((and-eq-true_iff (distinct n c t) (from_one d k)).0 h).0 in simp (take-set-lt, get_or-take)
powers-on-frame d n (Swap c t) h v = let (x, z, y, w) = places-two n c t h in simp (take-set-lt, get_or-take)
powers-on-frame d n (Multiplier q m) h v = let (x, z) = places (single-facts d n q m h).0 in simp (take-set-lt, get_or-take)
powers-on-frame d n (Measure q) h v = refl
powers-on-frame d n (Reset q) h v = refl
powers-on-frame d n (Correct t m) h v = refl

pub gate-on-frame : GateOnFrame
unfolding gate_row
gate-on-frame d n op h v x =
    let l : 2 * n ≤ 2 * n = le_refl (2 * n) in
    take-set-le (2 * n) (gate_powers d n op v) (2 * n) _ l ∙ powers-on-frame d n op h v
