-- Four bytes are the operation of their code exactly if they fit.
-- Assumes nothing.
use mathlib.Core.Path.{◌≡◌, refl, sym, ap, ◌∙◌}
use mathlib.Core.Bool.{Bool, true, false, not, ◌&&◌, ◌||◌, and_assoc, and_comm, or-false, and-eq-true_iff, false≢true}
use Prim.Native.Nat.{ℕ, zero, suc, ◌≤◌}
use native.Mathlib.Decide.{ℕ_discrete}
use native.Mathlib.Omega.{arith}
use lib.Dec.{eqb, ltb, leb}
use borrow.Author.Tests.{ne_eqb, le-ltb, le-leb, lt-leb, leb-true}
use Rattle.operation.specs.declared.Operation.TheVariants.{Fourier, PhaseGate, Sum, Cz, Swap, Multiplier, Measure, Reset}
use Rattle.operation.specs.Operation.{from_one}
use Rattle.book_entries.specs.Entry.{times_in, good_if, decoded, coded}
use Rattle.book_entries.specs.Fits.{plain_fits, fits}

-- tests in another order
apart : (p a s b : Bool) → (p && a) && (s && b) ≡ p && (s && (a && b))
apart false a s b = refl
apart true true s b = refl
apart true false false b = refl
apart true false true b = refl

-- How often, of a gate that has powers, and of an operation that has none.
often : (m b : ℕ) → from_one m (times_in b) ≡ ltb (times_in b) m
often m zero = refl
often m (suc b) = rw (ne_eqb (suc b) 0 (λ x. omega arith), le-leb 1 (suc b) (omega arith))

once : (b : ℕ) → eqb b 0 ≡ ltb (times_in b) 2 && not (eqb b 1)
once zero = refl
once (suc zero) = refl
once (suc (suc b)) = rw (ne_eqb (suc (suc b)) 0 (λ x. omega arith), le-ltb (suc (suc b)) 2 (omega arith))

module _ (d n b1 b2 b3 : ℕ) where
  -- the whole test of a gate on one qudit that has powers, up to m − 1, and of one on two qudits
  one-often : (m : ℕ) → (ltb b1 n && from_one m (times_in b3)) && (eqb b2 0 && not (eqb b3 1)) ≡ ltb b1 n && (eqb b2 0 && (ltb (times_in b3) m && not (eqb b3 1)))
  one-often m = apart (ltb b1 n) _ (eqb b2 0) _ ∙ ap (λ l. ltb b1 n && (eqb b2 0 && (l && not (eqb b3 1)))) (often m b3)

  two-often : (x : Bool) → ((ltb b1 n && x) && from_one d (times_in b3)) && not (eqb b3 1) ≡ ltb b1 n && (x && (ltb (times_in b3) d && not (eqb b3 1)))
  two-often x =
      and_assoc (ltb b1 n && x) _ _
      ∙ and_assoc (ltb b1 n) x _
      ∙ ap (λ l. ltb b1 n && (x && (l && not (eqb b3 1)))) (often d b3)

  -- a plain entry is none of the rest
  alone : (x p : Bool) → x ≡ x || (p && false)
  alone true p = refl
  alone false true = refl
  alone false false = refl

  pub by_fits : (b0 : ℕ) → decoded d n b0 b1 b2 b3 ≡ good_if (fits d n b0 b1 b2 b3) (coded b0 b1 b2 b3)
  unfolding decoded coded plain_fits fits
  by_fits zero = ap (λ t. good_if t (Fourier b1 (times_in b3))) (one-often 4 ∙ alone _ (ltb b1 n))
  by_fits (suc zero) = ap (λ t. good_if t (PhaseGate b1 (times_in b3))) (one-often d ∙ alone _ (ltb b1 n))
  by_fits (suc (suc zero)) = ap (λ t. good_if t (Sum b1 b2 (times_in b3))) (two-often _ ∙ alone _ (ltb b1 n))
  by_fits (suc (suc (suc zero))) = ap (λ t. good_if t (Cz b1 b2 (times_in b3))) (two-often _ ∙ alone _ (ltb b1 n))
  by_fits (suc (suc (suc (suc zero)))) =
      let x = ltb b2 n && not (eqb b1 b2) in
      ap (λ t. good_if t (Swap b1 b2)) (and_assoc (ltb b1 n) x _ ∙ ap (λ l. ltb b1 n && (x && l)) (once b3) ∙ alone _ (ltb b1 n))
  by_fits (suc (suc (suc (suc (suc zero))))) =
      ap (λ t. good_if t (Multiplier b1 b3)) (and_assoc (ltb b1 n) _ _ ∙ ap (λ l. ltb b1 n && l) (and_comm _ (eqb b2 0)) ∙ alone _ (ltb b1 n))
  by_fits (suc (suc (suc (suc (suc (suc zero)))))) =
      ap (λ t. good_if t (Measure b1)) (ap (λ l. ltb b1 n && (eqb b2 0 && l)) (once b3) ∙ alone _ (ltb b1 n))
  by_fits (suc (suc (suc (suc (suc (suc (suc zero))))))) = ap (λ t. good_if (ltb b1 n && t) (Reset b1)) (sym (or-false (eqb b2 0 && eqb b3 0)))
  by_fits (suc (suc (suc (suc (suc (suc (suc (suc zero)))))))) = refl
  by_fits (suc (suc (suc (suc (suc (suc (suc (suc (suc b))))))))) =
      let k = suc (suc (suc (suc (suc (suc (suc (suc (suc b)))))))) in
      rw (
        ne_eqb k 0 (λ x. omega arith),
        ne_eqb k 1 (λ x. omega arith),
        ne_eqb k 2 (λ x. omega arith),
        ne_eqb k 3 (λ x. omega arith),
        ne_eqb k 4 (λ x. omega arith),
        ne_eqb k 5 (λ x. omega arith),
        ne_eqb k 6 (λ x. omega arith),
        ne_eqb k 7 (λ x. omega arith),
        ne_eqb k 8 (λ x. omega arith),
        lt-leb k 6 (omega arith),
        and_comm (ltb b1 n) false,
      )

  -- what is plain fits, and has one of the first seven codes
  pub plain_fits_lem : (b0 : ℕ) → plain_fits d n b0 b1 b2 b3 ≡ true → (fits d n b0 b1 b2 b3 ≡ true) × (b0 ≤ 6)
  unfolding plain_fits fits
  plain_fits_lem b0 h =
      let first = ((and-eq-true_iff (leb b0 6 && ltb b1 n) _).0 h).0 in
      (rw h, leb-true b0 6 ((and-eq-true_iff (leb b0 6) (ltb b1 n)).0 first).0)

  -- and what fits has one of the nine
  pub fits-most : (b0 : ℕ) → fits d n b0 b1 b2 b3 ≡ true → b0 ≤ 8
  unfolding plain_fits fits
  fits-most b0 h = by (ℕ_discrete b0 7) (ℕ_discrete b0 8) (leb b0 6) refl
    where
      by : Dec (b0 ≡ 7) → Dec (b0 ≡ 8) → (low : Bool) → leb b0 6 ≡ low → b0 ≤ 8
      by (yes e) z low l = omega (arith, e)
      by (no y) (yes e) low l = omega (arith, e)
      by (no y) (no z) true l = omega (arith, leb-true b0 6 l)
      by (no y) (no z) false l = absurd (false≢true (rw (l, ne_eqb b0 7 y, ne_eqb b0 8 z, and_comm (ltb b1 n) false) at h))
