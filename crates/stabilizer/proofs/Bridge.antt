-- From rests and bytes to congruences, and back.
-- Assumes nothing.
use mathlib.Core.Path.{◌≡◌, refl, ◌∙◌, ap}
use Prim.Native.Nat.{ℕ, suc, ◌+◌, ◌*◌, ◌≤◌, ◌<◌, ◌%◌}
use native.Mathlib.Omega.{arith}
use native.Mathlib.Decide.{ℕ_discrete}
use native.Mathlib.Nat.{mod-lt}
use Rattle.congruence.proofs.Congruence.{Cong, cong_refl, cong_eq, cong_sym, cong_trans, cong_add, cong_mul-left, cong_mul-right, cong_mod, small_cong}
use Rattle.congruence.proofs.Sum.{sum_congr, sum-zero, unit, unit-same, unit-other}
use Rattle.symplectic.proofs.Pairing.{half, pair, pair-zed}
use Rattle.stabilizer.proofs.Span.{Inverses, none_right}
use Rattle.stabilizer.proofs.Basis.{SymplecticBasis}

-- Inverses from their rule: u times f u leaves 1.
pub inverses : (e : ℕ) (f : ℕ → ℕ) → ((u : ℕ) → 0 < u → u < suc e → u * f u % suc e ≡ 1) → Inverses (suc e)
unfolding Inverses
inverses e f h u nz = (
  f (u % suc e),
  cong_trans (cong_mul-right (f (u % suc e)) (cong_mod (suc e) u))
      (cong_trans (cong_mod (suc e) (u % suc e * f (u % suc e)))
      (cong_eq (suc e) (h (u % suc e) (omega arith) (mod-lt u (omega arith))))),
)

-- Validity as equations about the numbers p that the pairings leave.
module _ (e n : ℕ) (v p : ℕ → ℕ → ℕ) (is : (r s : ℕ) → Cong (suc e) (p r s) (pair e n (v r) (v s))) where
  pub valid : ((i : ℕ) → i < n → p (n + i) i ≡ 1)
      → ((r s : ℕ) → r < n + n → s < n + n → ¬ (r ≡ n + s) → ¬ (s ≡ n + r) → p r s ≡ 0)
      → SymplecticBasis e n v
  valid one none =
      record {
        partners = λ i l. cong_trans (cong_sym (is (n + i) i)) (cong_eq (suc e) (one i l));
        others = λ r s lr ls x y. cong_trans (cong_sym (is r s)) (cong_eq (suc e) (none r s lr ls x y));
      }

  module _ (small : (r s : ℕ) → p r s < suc e) (ok : SymplecticBasis e n v) where
    pub valid-partners : 1 ≤ e → (i : ℕ) → i < n → p (n + i) i ≡ 1
    valid-partners le i l = small_cong (cong_trans (is (n + i) i) (ok.partners i l)) (small (n + i) i) (omega arith)

    pub valid-others : (r s : ℕ) → r < n + n → s < n + n → ¬ (r ≡ n + s) → ¬ (s ≡ n + r) → p r s ≡ 0
    valid-others r s lr ls x y = small_cong (cong_trans (is r s) (ok.others r s lr ls x y)) (small r s) (omega arith)

-- The zero tableau is valid: row r has power 1 at r alone.
pub zero-valid : (e n : ℕ) → SymplecticBasis e n unit
zero-valid e n =
    record {
      partners = λ i l. cong_eq (suc e) (pair-zed e n i l (unit i) ∙ unit-same i i refl);
      others = λ r s lr ls x y. cong_eq (suc e) (omega (arith, half-none r s x, ap (λ (z : ℕ). e * z) (half-none s r y)));
    }
  where
    half-none : (r s : ℕ) → ¬ (r ≡ n + s) → half n (unit r) (unit s) ≡ 0
    half-none r s x = sum_congr n (λ q. unit r (n + q) * unit s q) (λ q. 0) (λ q l. go q (ℕ_discrete q s)) ∙ sum-zero n
      where
        go : (q : ℕ) → Dec (q ≡ s) → unit r (n + q) * unit s q ≡ 0
        go q (yes z) = ap (λ (t : ℕ). t * unit s q) (unit-other r (n + q) (λ y. x (omega arith))) ∙ omega arith
        go q (no z) = ap (λ (t : ℕ). unit r (n + q) * t) (unit-other s q z) ∙ omega arith

-- The exponent -f/a, in any form that is congruent to it, clears f.
pub clearing : (d f a w t : ℕ) → Cong d (a * w) 1 → Cong d (t + f * w) 0 → Cong d (f + t * a) 0
clearing d f a w t hw ht =
    cong_trans (cong_add (cong_trans (cong_eq d (omega arith)) (cong_sym (cong_mul-left f hw))) (cong_refl d (t * a)))
    (cong_trans (cong_eq d (omega arith)) (none_right a ht))
