-- Where no stabilizer is a pivot, half the sum of the stabilizers' shares is the outcome that the weighted product fixes.
-- Assumes nothing.
use Rattle.std.proofs.Common.{None}
use mathlib.Core.Path.{◌≡◌, sym, ap}
use mathlib.Core.List.{List}
use Prim.Native.Nat.{ℕ, zero, suc, ◌+◌, ◌-◌, ◌*◌, ◌/◌, ◌<◌, ◌≤◌}
use native.Mathlib.Nat.{le_refl, mod-lt}
use native.Mathlib.Omega.{arith}
use Rattle.congruence.proofs.Congruence.{Cong, cong_refl, cong_eq, cong_sym, cong_trans, cong_add, cong_mul-left, cong_mod, small_cong}
use Rattle.congruence.proofs.Sum.{sum}
use Rattle.symplectic.proofs.Triangle.{tri, tri_double}
use Rattle.symplectic.proofs.Pairing.{half, half-add-left, half-add-right, half-mul-left, half-mul-right, half-none-left, zed, half-to-zed}
use Rattle.stabilizer.proofs.Product.{vec, phs, vec-commute}
use Rattle.stabilizer.proofs.Member.{stabs-commute}
use Rattle.modular.specs.Modular.{neg}
use Rattle.modular.specs.Dimension.{Dimension}
use Rattle.row.specs.Row.{phase_of}
use Rattle.row_laws.proofs.Reading.{denotes, reads_of, dot-is, dot-means, neg_is, neg_small}
use Rattle.validity.specs.Validity.{Valid}
use Rattle.validity_laws.proofs.View.{rows, at-odd, row_of_lem, basis, reads_z}
use Rattle.measurement.specs.Look.{destabilizer_power, pivot_of, weighted}
use Rattle.measurement_laws.proofs.Combination.{stabs, signs, reads-weighted}
use Rattle.measurement_laws.proofs.Certain.{certain-is_z}
use Rattle.measurement_look.specs.Sums.{phase_term, phase_sum, half_phase_sum}

-- One factor more: a row with phase r and Σ a·b = S, to the power h. Before it the product has phase A, shares B and Σ a·b = W; P is
-- Σ b·a' of the product with the row, Q of the row with the product.
one_more : (d h r s S A B W P Q : ℕ) → r + s ≡ d → Cong d (2 * A + B) W → Cong d P Q
    → Cong d (2 * (A + (h * r + tri h * S) + h * P) + (B + h * (S + 2 * s))) (W + h * P + (h * Q + h * (h * S)))
one_more d h r s S A B W P Q e c same =
    record {
      p = c.p + h * same.p;
      q = c.q + h * same.q + 2 * h;
      eq = omega (arith, c.eq, ap (λ (z : ℕ). h * z) same.eq, ap (λ (z : ℕ). z * S) (tri_double h), ap (λ (z : ℕ). h * z) e);
    }

module _ (f n : ℕ) (t : List ℕ) (ok : Valid (suc (f + f)) n t) (h : ℕ → ℕ) where
  abbrev d : ℕ
  d = suc (f + f)

  abbrev g : ℕ → ℕ → ℕ
  g = stabs n t

  -- The stabilizers commute: so twice the phase of a product of their powers, and their shares, are its Σ a·b.
  twice : (k : ℕ) → k ≤ n → Cong d (2 * phs n g (signs n t) h k + phase_sum d n t h k) (half n (vec g h k) (vec g h k))
  unfolding phs sum phase_sum phase_term
  twice zero l = cong_eq d (sym (half-none-left n (λ s. 0)))
  twice (suc k) l =
      simp (dot-is, half-add-left n, half-add-right n, half-mul-left n, half-mul-right n)
      (one_more d (h k) (signs n t k) (d - signs n t k) _ _ _ _ _ _ (omega (arith, (row_of_lem ok (n + k) (omega arith)).below (2 * n) (omega arith)))
      (twice k (omega arith))
      (vec-commute d n n g (signs n t) (stabs-commute (f + f) n (rows n t) (basis ok)) h k k (omega arith) (omega arith)))

-- The weighted product is Z on q, so its Σ a·b is 0; modulo 2f + 1, f + 1 is ½ and f + f is −1.
odd-outcome : (f n : ℕ) → Dimension (suc (f + f)) → (t : List ℕ) → Valid (suc (f + f)) n t → (q : ℕ) → q < n → pivot_of n t q ≡ None
    → half_phase_sum (suc (f + f)) n t q ≡ neg (suc (f + f)) (phase_of n (weighted (suc (f + f)) n t q))
odd-outcome f n dim t ok q l none =
    let d = suc (f + f) in
    let r = phase_of n (weighted d n t q) in
    let all = phase_sum d n t (destabilizer_power n t q) n in
    let a = reads-weighted ok (omega arith) q in
    let z = denotes (reads_of (certain-is_z d n dim t ok q l none) (reads_z (omega (arith, dim.low)) n q (a.small (2 * n) (omega arith)))) in
    let c : Cong d (2 * r + all) 0 =
    cong_trans (cong_add (cong_mul-left 2 a.phase) (cong_refl d all))
    (cong_trans (twice f n t ok (destabilizer_power n t q) n (le_refl n))
    (cong_trans (cong_sym (dot-means (denotes a) (denotes a))) (cong_trans (dot-means z z) (cong_eq d (half-to-zed n q (zed n q)))))) in
    let halved : Cong d (all * suc f) ((f + f) * r) =
    record { p = 2 * r + suc f * c.p; q = suc f * c.q; eq = omega (arith, ap (λ (x : ℕ). suc f * x) c.eq) } in
    let e : d / 2 + 1 ≡ suc f = omega arith in
    rw e
    (small_cong (cong_trans (cong_sym (cong_mod d _)) (cong_trans halved (cong_sym (neg_is (f + f) r)))) (mod-lt _ (omega arith)) (neg_small (omega arith) r))

pub certain-outcome : (d n : ℕ) → Dimension d → (t : List ℕ) → Valid d n t → (q : ℕ) → q < n → pivot_of n t q ≡ None
    → half_phase_sum d n t q ≡ neg d (phase_of n (weighted d n t q))
certain-outcome d n dim t ok q l none =
    at-odd (λ z. Valid z n t → half_phase_sum z n t q ≡ neg z (phase_of n (weighted z n t q))) (λ f k v. odd-outcome f n k t v q l none) dim ok
