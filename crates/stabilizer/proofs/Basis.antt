-- The rows of a valid tableau are a basis: every vector is a combination of them, with its pairings as coefficients.
-- Rows 0 .. n-1 are the destabilizers, n .. 2n-1 the stabilizers. Assumes nothing.
use mathlib.Core.Path.{◌≡◌, ◌∙◌, ap}
use Prim.Native.Nat.{ℕ, suc, ◌+◌, ◌*◌, ◌-◌, ◌≤◌, ◌<◌}
use native.Mathlib.Omega.{arith}
use native.Mathlib.Decide.{dec_lt}
use Rattle.congruence.proofs.Congruence.{Cong, cong_refl, cong_eq, cong_trans, cong_add, cong_mul-left}
use Rattle.congruence.proofs.Sum.{sum, sum_congr, sum-mul, sum-split, pick, pick_yes, pick_no, dot}
use Rattle.symplectic.proofs.Pairing.{pair, pair_flip, pair_cong, zed, pair-zed}
use Rattle.symplectic.proofs.Map.{Same}
use Rattle.stabilizer.proofs.Span.{none_left, none_right, sum-none, Inverses, Ones, Zeros, expand}

-- Stabilizer i paired with destabilizer i gives 1, and any two rows that are not such partners give 0.
pub record SymplecticBasis (e n : ℕ) (v : ℕ → ℕ → ℕ) : Type 0 where
  pub partners : (i : ℕ) → i < n → Cong (suc e) (pair e n (v (n + i)) (v i)) 1
  pub others : (r s : ℕ) → r < n + n → s < n + n → ¬ (r ≡ n + s) → ¬ (s ≡ n + r) → Cong (suc e) (pair e n (v r) (v s)) 0

-- It depends on the rows' rests alone.
pub valid_same : (e n : ℕ) (v v' : ℕ → ℕ → ℕ) → ((i : ℕ) → i < n + n → Same (suc e) n (v' i) (v i)) → SymplecticBasis e n v → SymplecticBasis e n v'
valid_same e n v v' h ok =
    record {
      partners = λ i l.
          cong_trans (pair_cong e n (v' (n + i)) (v (n + i)) (v' i) (v i) (h (n + i) (omega arith)) (h i (omega arith))) (ok.partners i l);
      others = λ r s lr ls x y. cong_trans (pair_cong e n (v' r) (v r) (v' s) (v s) (h r lr) (h s ls)) (ok.others r s lr ls x y);
    }

-- The vector whose inner products are the pairings with u.
twist : (e n : ℕ) → (ℕ → ℕ) → ℕ → ℕ
twist e n u s = pick (dec_lt s n) (e * u (n + s)) (u (s - n))

dot-twist : (e n : ℕ) (x u : ℕ → ℕ) → dot (n + n) x (twist e n u) ≡ pair e n x u
unfolding twist
dot-twist e n x u =
    sum-split n n (λ s. x s * twist e n u s)
    ∙ omega (
      arith,
      sum_congr n (λ s. x s * twist e n u s) (λ s. e * (u (n + s) * x s))
          (λ s l. ap (λ (z : ℕ). x s * z) (pick_yes (dec_lt s n) (e * u (n + s)) (u (s - n)) l) ∙ omega arith),
      sum-mul n e (λ s. u (n + s) * x s),
      sum_congr n (λ s. x (n + s) * twist e n u (n + s)) (λ s. x (n + s) * u s)
          (λ s l.
          ap (λ (z : ℕ). x (n + s) * z)
          (pick_no (dec_lt (n + s) n) (e * u (n + (n + s))) (u (n + s - n)) (omega arith) ∙ ap u (omega arith))),
    )

-- The duals of the rows: a stabilizer's is its destabilizer, a destabilizer's its stabilizer with the opposite sign.
duals : (e n : ℕ) → (ℕ → ℕ → ℕ) → ℕ → ℕ → ℕ
duals e n v r s = pick (dec_lt r n) (e * twist e n (v (n + r)) s) (twist e n (v (r - n)) s)

module _ (e n : ℕ) (v : ℕ → ℕ → ℕ) where
  dual_low : (r : ℕ) → r < n → (x : ℕ → ℕ) → dot (n + n) x (duals e n v r) ≡ e * pair e n x (v (n + r))
  unfolding duals
  dual_low r l x =
      sum_congr (n + n) (λ s. x s * duals e n v r s) (λ s. e * (x s * twist e n (v (n + r)) s))
      (λ s ls. ap (λ (z : ℕ). x s * z) (pick_yes (dec_lt r n) (e * twist e n (v (n + r)) s) (twist e n (v (r - n)) s) l) ∙ omega arith)
      ∙ sum-mul (n + n) e (λ s. x s * twist e n (v (n + r)) s)
      ∙ ap (λ (z : ℕ). e * z) (dot-twist e n x (v (n + r)))

  dual_high : (r : ℕ) → n ≤ r → (x : ℕ → ℕ) → dot (n + n) x (duals e n v r) ≡ pair e n x (v (r - n))
  unfolding duals
  dual_high r l x =
      sum_congr (n + n) (λ s. x s * duals e n v r s) (λ s. x s * twist e n (v (r - n)) s)
      (λ s ls. ap (λ (z : ℕ). x s * z) (pick_no (dec_lt r n) (e * twist e n (v (n + r)) s) (twist e n (v (r - n)) s) (omega arith)))
      ∙ dot-twist e n x (v (r - n))

e-squared : (e : ℕ) → Cong (suc e) (e * (e * 1)) 1
e-squared e = record { p = 1; q = e; eq = omega arith }

module _ (e n : ℕ) (le : 1 ≤ e) (inv : Inverses (suc e)) (v : ℕ → ℕ → ℕ) (ok : SymplecticBasis e n v) where
  abbrev d : ℕ
  d = suc e

  ones : Ones d (n + n) v (duals e n v)
  ones i l = go (dec_lt i n)
    where
      go : Dec (i < n) → Cong d (dot (n + n) (v i) (duals e n v i)) 1
      go (yes li) =
          cong_trans (cong_eq d (dual_low e n v i li (v i)))
          (cong_trans (cong_mul-left e (cong_trans (pair_flip e n (v i) (v (n + i))) (cong_mul-left e (ok.partners i li)))) (e-squared e))
      go (no gi) =
          cong_trans (cong_eq d (dual_high e n v i (omega arith) (v i)))
          (cong_trans (cong_eq d (ap (λ (z : ℕ). pair e n (v z) (v (i - n))) (omega arith))) (ok.partners (i - n) (omega arith)))

  zeros : Zeros d (n + n) v (duals e n v)
  zeros i j li lj ne = go (dec_lt j n)
    where
      go : Dec (j < n) → Cong d (dot (n + n) (v i) (duals e n v j)) 0
      go (yes l) =
          cong_trans (cong_eq d (dual_low e n v j l (v i)))
          (none_left e (ok.others i (n + j) li (omega arith) (omega arith) (λ q. ne (omega arith))))
      go (no g) =
          cong_trans (cong_eq d (dual_high e n v j (omega arith) (v i)))
          (ok.others i (j - n) li (omega arith) (λ q. ne (omega arith)) (omega arith))

  pub complete : (x : ℕ → ℕ) → Same d n x (λ s. e * sum n (λ i. pair e n x (v (n + i)) * v i s) + sum n (λ i. pair e n x (v i) * v (n + i) s))
  complete x s l =
      cong_trans (expand e le inv (n + n) v (duals e n v) ones zeros x s l)
      (cong_eq d
      (sum-split n n (λ j. dot (n + n) x (duals e n v j) * v j s)
      ∙ omega (
        arith,
        sum_congr n (λ j. dot (n + n) x (duals e n v j) * v j s) (λ j. e * (pair e n x (v (n + j)) * v j s))
            (λ j lj. ap (λ (z : ℕ). z * v j s) (dual_low e n v j lj x) ∙ omega arith),
        sum-mul n e (λ j. pair e n x (v (n + j)) * v j s),
        sum_congr n (λ j. dot (n + n) x (duals e n v (n + j)) * v (n + j) s) (λ j. pair e n x (v j) * v (n + j) s)
            (λ j lj.
            ap (λ (z : ℕ). z * v (n + j) s)
            (dual_high e n v (n + j) (omega arith) x ∙ ap (λ (z : ℕ). pair e n x (v z)) (omega arith))),
      )))

  -- What commutes with every stabilizer is a combination of stabilizers.
  pub commuting : (x : ℕ → ℕ) → ((i : ℕ) → i < n → Cong d (pair e n x (v (n + i))) 0)
      → Same d n x (λ s. sum n (λ i. pair e n x (v i) * v (n + i) s))
  commuting x h s l =
      cong_trans (complete x s l)
      (cong_trans
      (cong_add
      (none_left e (sum-none d n (λ i. pair e n x (v (n + i)) * v i s) (λ i li. none_right (v i s) (h i li))))
      (cong_refl d (sum n (λ i. pair e n x (v i) * v (n + i) s))))
      (cong_eq d (omega arith)))

  -- The certain measurement: Z on q is the combination of the stabilizers by the X powers on q of the destabilizers.
  pub certain : (q : ℕ) → q < n → ((i : ℕ) → i < n → Cong d (v (n + i) q) 0) → Same d n (zed n q) (λ s. sum n (λ i. v i q * v (n + i) s))
  certain q lq h s l =
      cong_trans (commuting (zed n q) (λ i li. cong_trans (cong_eq d (pair-zed e n q lq (v (n + i)))) (h i li)) s l)
      (cong_eq d
      (sum_congr n (λ i. pair e n (zed n q) (v i) * v (n + i) s) (λ i. v i q * v (n + i) s)
      (λ i li. ap (λ (z : ℕ). z * v (n + i) s) (pair-zed e n q lq (v i)))))
