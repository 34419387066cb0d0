-- What each operation does to powers and phase, as functions, and that it keeps the product. A measurement does nothing here.
-- Assumes nothing.
use mathlib.Core.Path.{◌≡◌, refl, sym, ◌∙◌, subst}
use mathlib.Core.Bool.{Bool, true, false, cond}
use mathlib.Core.List.{List}
use Prim.Native.Nat.{ℕ, suc, pred, ◌+◌, ◌*◌, ◌%◌, ◌≤◌, ◌<◌}
use native.Mathlib.Nat.{mod-lt, mod-eq_of_lt}
use native.Mathlib.Omega.{arith}
use lib.Dec.{eqb}
use lib.ListN.{length, get_or, length-set}
use lib.Seq.{get_or-set_other}
use borrow.Author.Tests.{eqb-true, ne_eqb}
use Rattle.congruence.proofs.Congruence.{Cong, cong_refl, cong_eq, cong_sym, cong_trans, cong_add, cong_mul-left, cong_mod, cong_of_mod}
use Rattle.symplectic.proofs.Triangle.{tri}
use Rattle.symplectic.proofs.Map.{Hom}
use Rattle.symplectic.proofs.Gates.{put, fourier, fourier-twice, fourier_thrice, phase-gate, multiplier, sum-gate, cz, swap-gate, character}
use Rattle.modular.specs.Modular.{neg}
use Rattle.modular.specs.Dimension.{inverse, Dimension}
use Rattle.row.specs.Row.{x_of, z_of}
use Rattle.row.proofs.Laws.{powers_of}
use Rattle.row_laws.proofs.Reading.{bytes, Reads, reads-row, made, tri-is, neg_is}
use Rattle.operation.specs.declared.Operation.{Operation}
use Rattle.operation.specs.declared.Operation.TheVariants.{Fourier, PhaseGate, Sum, Cz, Swap, Multiplier, Measure, Reset, Correct}
use Rattle.operation.specs.Operation.{allowed}
use Rattle.operation.specs.Gate.{with_x, with_z, gate_powers, gate_phase, gate_row}
use Rattle.operation.proofs.Operands.{distinct-facts, single-facts, pair-facts}
use Rattle.operation.proofs.Gate.{gate-powers-length, gate-powers}
use Rattle.conjugation.proofs.Put.{put_cong, stored, stored_x, stored_z}

-- The X and the Z power after k applications of Fourier, and an operation on powers, with d − 1 for −1.
abbrev pub mapped_x : ℕ → ℕ → ℕ → ℕ → ℕ
mapped_x e k a b = cond (eqb k 1) (e * b) (cond (eqb k 2) (e * a) b)

abbrev pub mapped_z : ℕ → ℕ → ℕ → ℕ → ℕ
mapped_z e k a b = cond (eqb k 1) a (cond (eqb k 2) (e * b) (e * a))

unfoldable pub mapped : ℕ → ℕ → Operation → (ℕ → ℕ) → ℕ → ℕ
mapped d n (Fourier q k) u = put n q (mapped_x (pred d) k (u q) (u (n + q))) (mapped_z (pred d) k (u q) (u (n + q))) u
mapped d n (PhaseGate q k) u = put n q (u q) (u (n + q) + k * u q) u
mapped d n (Sum c t k) u = put n t (u t + k * u c) (u (n + t)) (put n c (u c) (u (n + c) + pred d * (k * u (n + t))) u)
mapped d n (Cz c t k) u = put n t (u t) (u (n + t) + k * u c) (put n c (u c) (u (n + c) + k * u t) u)
mapped d n (Swap c t) u = put n t (u c) (u (n + c)) (put n c (u t) (u (n + t)) u)
mapped d n (Multiplier q m) u = put n q (m * u q) (inverse d m * u (n + q)) u
mapped d n (Measure q) u = u
mapped d n (Reset q) u = u
mapped d n (Correct t m) u = u

-- What it adds to the phase.
unfoldable pub gained : ℕ → ℕ → Operation → (ℕ → ℕ) → ℕ
gained d n (Fourier q k) u = cond (eqb k 2) 0 (pred d * (u q * u (n + q)))
gained d n (PhaseGate q k) u = k * tri (u q)
gained d n (Sum c t k) u = 0
gained d n (Cz c t k) u = k * (u c * u t)
gained d n (Swap c t) u = 0
gained d n (Multiplier q m) u = 0
gained d n (Measure q) u = 0
gained d n (Reset q) u = 0
gained d n (Correct t m) u = 0

pub record Acts (d n : ℕ) (op : Operation) : Type 0 where
  pub hom : Hom d n (mapped d n op) (gained d n op)
  pub powers : (v : List ℕ) → 2 * n ≤ length v → (s : ℕ) → s < n + n → Cong d (get_or (gate_powers d n op v) s 0) (mapped d n op (bytes v) s)
  pub phase : (v : List ℕ) → Cong d (gate_phase d n op v) (gained d n op (bytes v))

module _ (f n : ℕ) where
  abbrev e : ℕ
  e = f + f

  abbrev d : ℕ
  d = suc e

  rest : (x : ℕ) → Cong d (x % d) x
  rest x = cong_sym (cong_mod d x)

  same : (x : ℕ) → Cong d x x
  same = cong_refl d

  changed : (q s : ℕ) (u u' : ℕ → ℕ) {x a a' b b' : ℕ} → x ≡ put n q a b u s → Cong d a a' → Cong d b b' → Cong d (u s) (u' s)
      → Cong d x (put n q a' b' u' s)
  changed q s u u' is ha hb hu = cong_trans (cong_eq d is) (put_cong n q u u' s ha hb hu)

  factor : (x m : ℕ) → Cong d (x * m % d) (m * x)
  factor x m = cong_trans (rest _) (cong_eq d (omega arith))

  -- Fourier once, twice, three times: of the tests k = 1 and k = 2 at most one holds.
  fourier-hom : (q : ℕ) → q < n → (x y : Bool) → (x ≡ true → y ≡ false)
      → Hom d n (λ u. put n q (cond x (e * u (n + q)) (cond y (e * u q) (u (n + q)))) (cond x (u q) (cond y (e * u (n + q)) (e * u q))) u)
      (λ u. cond y 0 (e * (u q * u (n + q))))
  fourier-hom q l true true h = absurd (let z = h refl in let w : ◌≡◌ {A = ℕ} 0 1 = cc in omega arith)
  fourier-hom q l true false h = fourier e n q l
  fourier-hom q l false true h = fourier-twice e n q l
  fourier-hom q l false false h = fourier_thrice e n q l

  fourier_x_lem : (a b : ℕ) (x y : Bool) → Cong d (cond x (neg d b) (cond y (neg d a) b)) (cond x (e * b) (cond y (e * a) b))
  fourier_x_lem a b true y = neg_is e b
  fourier_x_lem a b false true = neg_is e a
  fourier_x_lem a b false false = same b

  fourier_z_lem : (a b : ℕ) (x y : Bool) → Cong d (cond x a (cond y (neg d b) (neg d a))) (cond x a (cond y (e * b) (e * a)))
  fourier_z_lem a b true y = same a
  fourier_z_lem a b false true = neg_is e b
  fourier_z_lem a b false false = neg_is e a

  fourier-phase : (z : ℕ) (y : Bool) → Cong d (cond y 0 (neg d z)) (cond y 0 (e * z))
  fourier-phase z true = same 0
  fourier-phase z false = neg_is e z

  one_of : (k : ℕ) → eqb k 1 ≡ true → eqb k 2 ≡ false
  one_of k h = ne_eqb k 2 (λ z. omega (arith, eqb-true k 1 h))

  -- The inverse is used by its rule alone.
  -- measurement, reset and correction do nothing here
  no-gate : Hom d n (λ u. u) (λ u. 0)
  no-gate = character d n (λ u. 0) (record { resp = λ u w h. same 0; add = λ u w. refl; none = refl })

  acts-odd : Dimension d → (op : Operation) → allowed d n op ≡ true → Acts d n op
  unfolding gate_powers gate_phase mapped gained
  acts-odd dim (Fourier q k) h =
      let l = (single-facts 4 n q k h).0 in
      record {
        hom = fourier-hom q l (eqb k 1) (eqb k 2) (one_of k);
        powers = λ v r s i. changed q s _ _ (stored l v r _ _ s) (fourier_x_lem _ _ (eqb k 1) (eqb k 2)) (fourier_z_lem _ _ (eqb k 1) (eqb k 2)) (same _);
        phase = λ v. fourier-phase _ (eqb k 2);
      }
  acts-odd dim (PhaseGate q k) h =
      let l = (single-facts d n q k h).0 in
      record {
        hom = phase-gate f n q k l;
        powers = λ v r s i. changed q s _ _ (stored_z l v r _ s) (same _) (rest _) (same _);
        phase = λ v. cong_mul-left k (cong_eq d (tri-is _));
      }
  acts-odd dim (Sum c t k) h =
      let (lc, lt, ne, _, _) = pair-facts d n c t k h in
      record {
        hom = sum-gate e n c t k lc lt ne;
        powers = λ v r s i.
            let w = with_z n c ((z_of n v c + neg d (k * z_of n v t)) % d) v in
            let kept : z_of n w t ≡ z_of n v t = get_or-set_other v (n + c) (n + t) _ 0 (λ x. omega arith) in
            changed t s _ _ (stored_x lt w (rw length-set r) _ s) (rest _) (cong_eq d kept)
            (changed c s _ _ (stored_z lc v r _ s) (same _) (cong_trans (rest _) (cong_add (same _) (neg_is e _))) (same _));
        phase = λ v. same 0;
      }
  acts-odd dim (Cz c t k) h =
      let (lc, lt, ne, _, _) = pair-facts d n c t k h in
      record {
        hom = cz d n c t k lc lt ne;
        powers = λ v r s i.
            let w = with_z n c ((z_of n v c + k * x_of v t) % d) v in
            let kept : x_of w t ≡ x_of v t = get_or-set_other v (n + c) t _ 0 (λ x. omega arith) in
            changed t s _ _ (stored_z lt w (rw length-set r) _ s) (cong_eq d kept) (rest _)
            (changed c s _ _ (stored_z lc v r _ s) (same _) (rest _) (same _));
        phase = λ v. same _;
      }
  acts-odd dim (Swap c t) h =
      let (lc, lt, ne) = distinct-facts n c t h in
      record {
        hom = swap-gate d n c t lc lt ne;
        powers = λ v r s k.
            changed t s _ _ (stored lt (with_z n c (z_of n v t) (with_x c (x_of v t) v)) (simp length-set r) _ _ s) (same _) (same _)
            (changed c s _ _ (stored lc v r _ _ s) (same _) (same _) (same _));
        phase = λ v. same 0;
      }
  acts-odd dim (Multiplier q m) h =
      let (l, low, high) = single-facts d n q m h in
      record {
        hom = multiplier d n q m (inverse d m) l (cong_of_mod d _ 1 (dim.rule m low high ∙ sym (mod-eq_of_lt (omega (arith, dim.low)))));
        powers = λ v r s k. changed q s _ _ (stored l v r _ _ s) (factor _ m) (factor _ (inverse d m)) (same _);
        phase = λ v. same 0;
      }
  acts-odd dim (Measure q) h = record { hom = no-gate; powers = λ v r s k. same _; phase = λ v. same 0 }
  acts-odd dim (Reset q) h = record { hom = no-gate; powers = λ v r s k. same _; phase = λ v. same 0 }
  acts-odd dim (Correct t m) h = record { hom = no-gate; powers = λ v r s k. same _; phase = λ v. same 0 }

pub acts : {d n : ℕ} → Dimension d → (op : Operation) → allowed d n op ≡ true → Acts d n op
acts {d} {n} dim op h = subst (λ (z : ℕ). Dimension z → allowed z n op ≡ true → Acts z n op) (sym dim.odd) (λ k. acts-odd dim.half n k op) dim h

-- A gate on a row.
pub reads-gate : {d n : ℕ} {v : List ℕ} {u : ℕ → ℕ} {r : ℕ} → Dimension d → (op : Operation) → allowed d n op ≡ true → Reads d n v u r
    → Reads d n (gate_row d n op v) (mapped d n op u) (r + gained d n op u)
unfolding gate_row
reads-gate {d} {n} {v} {u} {r} dim op h x =
    let low : 0 < d = omega (arith, dim.low) in
    let a = acts dim op h in
    made d n (gate_powers d n op v) (mapped d n op u) _ (r + gained d n op u)
    (gate-powers-length d n op v ∙ x.len)
    (λ s l. (gate-powers d n low op v h (powers_of (reads-row x))).below s (omega arith))
    (λ s l. cong_trans (a.powers v (omega (arith, x.len)) s l) (a.hom.resp (bytes v) u x.powers s l))
    (mod-lt _ low)
    (cong_trans (cong_sym (cong_mod d _)) (cong_add x.phase (cong_trans (a.phase v) (a.hom.gain (bytes v) u x.powers))))
