-- Ordered products of powers of rows: their powers and their phase.
-- Assumes nothing.
use mathlib.Core.Path.{◌≡◌, refl, sym, ◌∙◌, ap}
use Prim.Native.Nat.{ℕ, zero, suc, ◌+◌, ◌*◌, ◌≤◌, ◌<◌}
use native.Mathlib.Omega.{arith}
use native.Mathlib.Decide.{ℕ_discrete}
use Rattle.congruence.proofs.Congruence.{Cong, cong_refl, cong_eq, cong_trans, cong_add, cong_mul, cong_mul-left}
use Rattle.congruence.proofs.Sum.{sum, sum_congr, sum_cong, sum-add, sum-zero, unit, unit-same, unit-other, sum-unit-out}
use Rattle.symplectic.proofs.Triangle.{tri, tri-add, tri_cong}
use Rattle.symplectic.proofs.Pairing.{half, half-add-left, half-add-right, half-mul-left, half-mul-right, half-none-left, half-none-right, half_congr, half_cong, pair, pair_left}
use Rattle.symplectic.proofs.Map.{Same}

-- The powers of the product of the first k rows of g, row i to the power h i.
abbrev pub vec : (ℕ → ℕ → ℕ) → (ℕ → ℕ) → ℕ → ℕ → ℕ
vec g h k s = sum k (λ i. h i * g i s)

-- Its phase, where row i has phase r i.
unfoldable pub phs : ℕ → (ℕ → ℕ → ℕ) → (ℕ → ℕ) → (ℕ → ℕ) → ℕ → ℕ
phs n g r h zero = 0
phs n g r h (suc k) =
    phs n g r h k + (h k * r k + tri (h k) * half n (g k) (g k)) + half n (vec g h k) (λ s. h k * g k s)

-- A product pairs as the sum of its factors.
module _ (n : ℕ) (g : ℕ → ℕ → ℕ) (h : ℕ → ℕ) where
  half-vec-left : (k : ℕ) (w : ℕ → ℕ) → half n (vec g h k) w ≡ sum k (λ i. h i * half n (g i) w)
  unfolding sum
  half-vec-left zero w = half-none-left n w
  half-vec-left (suc k) w =
      half-add-left n (vec g h k) (λ s. h k * g k s) w ∙ omega (arith, half-vec-left k w, half-mul-left n (h k) (g k) w)

  half-vec-right : (k : ℕ) (w : ℕ → ℕ) → half n w (vec g h k) ≡ sum k (λ i. h i * half n w (g i))
  unfolding sum
  half-vec-right zero w = half-none-right n w
  half-vec-right (suc k) w =
      half-add-right n w (vec g h k) (λ s. h k * g k s) ∙ omega (arith, half-vec-right k w, half-mul-right n (h k) w (g k))

pub pair-vec : (e n : ℕ) (g : ℕ → ℕ → ℕ) (h : ℕ → ℕ) (k : ℕ) (w : ℕ → ℕ) → pair e n (vec g h k) w ≡ sum k (λ i. h i * pair e n (g i) w)
unfolding sum
pair-vec e n g h zero w = omega (arith, half-none-left n w, ap (λ (z : ℕ). e * z) (half-none-right n w))
pair-vec e n g h (suc k) w = pair_left e n (vec g h k) (g k) w (h k) ∙ omega (arith, pair-vec e n g h k w)

-- The product depends on rests alone: on those of the rows and, for odd d, of the exponents.
pub vec_cong : (d n : ℕ) (g g' : ℕ → ℕ → ℕ) (h h' : ℕ → ℕ) (k : ℕ)
    → ((i : ℕ) → i < k → Same d n (g i) (g' i))
    → ((i : ℕ) → i < k → Cong d (h i) (h' i))
    → Same d n (vec g h k) (vec g' h' k)
vec_cong d n g g' h h' k a c s l = sum_cong d k (λ i. h i * g i s) (λ i. h' i * g' i s) (λ i li. cong_mul (c i li) (a i li s l))

phs-rests : (d n : ℕ) (g g' : ℕ → ℕ → ℕ) (r r' h h' : ℕ → ℕ) (k : ℕ)
    → ((i : ℕ) → i < k → Same d n (g i) (g' i))
    → ((i : ℕ) → i < k → Cong d (r i) (r' i))
    → ((i : ℕ) → i < k → Cong d (h i) (h' i))
    → ((i : ℕ) → i < k → Cong d (tri (h i)) (tri (h' i)))
    → Cong d (phs n g r h k) (phs n g' r' h' k)
unfolding phs
phs-rests d n g g' r r' h h' zero a b c t = cong_refl d 0
phs-rests d n g g' r r' h h' (suc k) a b c t =
    cong_add
    (cong_add
    (phs-rests d n g g' r r' h h' k (λ i l. a i (omega arith)) (λ i l. b i (omega arith)) (λ i l. c i (omega arith)) (λ i l. t i (omega arith)))
    (cong_add (cong_mul (c k (omega arith)) (b k (omega arith)))
    (cong_mul (t k (omega arith)) (half_cong n d (g k) (g' k) (g k) (g' k) (a k (omega arith)) (a k (omega arith))))))
    (half_cong n d (vec g h k) (vec g' h' k) (λ s. h k * g k s) (λ s. h' k * g' k s)
    (vec_cong d n g g' h h' k (λ i l. a i (omega arith)) (λ i l. c i (omega arith)))
    (λ s l. cong_mul (c k (omega arith)) (a k (omega arith) s l)))

pub phs_cong : (f n : ℕ) (g : ℕ → ℕ → ℕ) (r h h' : ℕ → ℕ) (k : ℕ)
    → ((i : ℕ) → i < k → Cong (suc (f + f)) (h i) (h' i))
    → Cong (suc (f + f)) (phs n g r h k) (phs n g r h' k)
phs_cong f n g r h h' k c =
    phs-rests (suc (f + f)) n g g r r h h' k (λ i l s ls. cong_refl (suc (f + f)) (g i s)) (λ i l. cong_refl (suc (f + f)) (r i)) c
    (λ i l. tri_cong f (c i l))

-- No rows, and one row.
pub vec-none : (g : ℕ → ℕ → ℕ) (k s : ℕ) → vec g (λ i. 0) k s ≡ 0
vec-none g k s = sum_congr k (λ i. 0 * g i s) (λ i. 0) (λ i l. omega arith) ∙ sum-zero k

pub phs-none : (n : ℕ) (g : ℕ → ℕ → ℕ) (r : ℕ → ℕ) (k : ℕ) → phs n g r (λ i. 0) k ≡ 0
unfolding phs tri
phs-none n g r zero = refl
phs-none n g r (suc k) = omega (arith, phs-none n g r k, half-mul-right n 0 (vec g (λ i. 0) k) (g k))

module _ (n : ℕ) (g : ℕ → ℕ → ℕ) (r : ℕ → ℕ) (j : ℕ) where
  -- The phase with one more factor, to the power z.
  abbrev next : ℕ → ℕ → ℕ
  next k z = phs n g r (unit j) k + (z * r k + tri z * half n (g k) (g k)) + half n (vec g (unit j) k) (λ s. z * g k s)

  next-none : (k : ℕ) → next k 0 ≡ phs n g r (unit j) k
  unfolding tri
  next-none k = omega (arith, half-mul-right n 0 (vec g (unit j) k) (g k))

  phs-before : (k : ℕ) → k ≤ j → phs n g r (unit j) k ≡ 0
  unfolding phs
  phs-before zero l = refl
  phs-before (suc k) l = ap (next k) (unit-other j k (omega arith)) ∙ next-none k ∙ phs-before k (omega arith)

  pub phs-unit : (k : ℕ) → j < k → phs n g r (unit j) k ≡ r j
  unfolding phs tri
  phs-unit zero l = absurd (omega arith)
  phs-unit (suc k) l = go (ℕ_discrete k j) (phs-unit k)
    where
      go : Dec (k ≡ j) → (j < k → phs n g r (unit j) k ≡ r j) → phs n g r (unit j) (suc k) ≡ r j
      go (yes q) ih =
          ap (next k) (unit-same j k q)
          ∙ omega (
            arith,
            phs-before k (omega arith),
            half-mul-right n 1 (vec g (unit j) k) (g k),
            half_congr n (vec g (unit j) k) (λ s. 0) (g k) (g k) (λ s. sum-unit-out k j (λ i. g i s) (omega arith)) (λ s. refl),
            half-none-left n (g k),
            ap r q,
          )
      go (no q) ih = ap (next k) (unit-other j k q) ∙ next-none k ∙ ih (omega arith)

-- The product of two products of rows that commute.
abbrev pub RowsCommute : (d n N : ℕ) → (ℕ → ℕ → ℕ) → Type 0
RowsCommute d n N g = (i j : ℕ) → i < N → j < N → Cong d (half n (g i) (g j)) (half n (g j) (g i))

pub vec-add : (g : ℕ → ℕ → ℕ) (h h' : ℕ → ℕ) (k s : ℕ) → vec g (λ i. h i + h' i) k s ≡ vec g h k s + vec g h' k s
vec-add g h h' k s =
    sum_congr k (λ i. (h i + h' i) * g i s) (λ i. h i * g i s + h' i * g i s) (λ i l. omega arith)
    ∙ sum-add k (λ i. h i * g i s) (λ i. h' i * g i s)

-- The arithmetic of one more factor.
factor : (d x y ρ σ P P' Q' H T T' B A A' : ℕ)
    → Cong d B (A + A' + H)
    → Cong d P' Q'
    → Cong d (B + ((x + y) * ρ + (T + T' + x * y) * σ) + (x + y) * (P + P')) (A + (x * ρ + T * σ) + x * P + (A' + (y * ρ + T' * σ) + y * P') + (H + y * P + x * (Q' + y * σ)))
factor d x y ρ σ P P' Q' H T T' B A A' ih cm =
    record { p = ih.p + x * cm.p; q = ih.q + x * cm.q; eq = omega (arith, ap (λ (z : ℕ). x * z) cm.eq) }

module _ (d n N : ℕ) (g : ℕ → ℕ → ℕ) (r : ℕ → ℕ) (cmt : RowsCommute d n N g) where
  pub vec-commute : (h : ℕ → ℕ) (k j : ℕ) → k ≤ N → j < N → Cong d (half n (vec g h k) (g j)) (half n (g j) (vec g h k))
  vec-commute h k j lk lj =
      cong_trans (cong_eq d (half-vec-left n g h k (g j)))
      (cong_trans
      (sum_cong d k (λ i. h i * half n (g i) (g j)) (λ i. h i * half n (g j) (g i))
      (λ i li. cong_mul-left (h i) (cmt i j (omega arith) lj)))
      (cong_eq d (sym (half-vec-right n g h k (g j)))))

  pub phs-add : (h h' : ℕ → ℕ) (k : ℕ) → k ≤ N
      → Cong d (phs n g r (λ i. h i + h' i) k) (phs n g r h k + phs n g r h' k + half n (vec g h k) (vec g h' k))
  unfolding phs sum
  phs-add h h' zero l = cong_eq d (omega (arith, half-none-left n (λ s. 0)))
  phs-add h h' (suc k) l =
      rw (tri-add (h k) (h' k), one, half-mul-right n (h k) W (g k), half-mul-right n (h' k) W' (g k), cross)
      (factor d (h k) (h' k) (r k) (half n (g k) (g k)) (half n W (g k)) (half n W' (g k)) (half n (g k) W') (half n W W') (tri (h k)) (tri (h' k))
      (phs n g r (λ i. h i + h' i) k)
      (phs n g r h k)
      (phs n g r h' k)
      (phs-add h h' k (omega arith))
      (vec-commute h' k k (omega arith) (omega arith)))
    where
      W : ℕ → ℕ
      W = vec g h k

      W' : ℕ → ℕ
      W' = vec g h' k

      one : half n (vec g (λ i. h i + h' i) k) (λ s. (h k + h' k) * g k s) ≡ (h k + h' k) * (half n W (g k) + half n W' (g k))
      one =
          half-mul-right n (h k + h' k) (vec g (λ i. h i + h' i) k) (g k)
          ∙ ap (λ (z : ℕ). (h k + h' k) * z)
          (half_congr n (vec g (λ i. h i + h' i) k) (λ s. W s + W' s) (g k) (g k) (vec-add g h h' k) (λ s. refl) ∙ half-add-left n W W' (g k))

      cross : half n (λ s. W s + h k * g k s) (λ s. W' s + h' k * g k s)
          ≡ half n W W' + h' k * half n W (g k) + h k * (half n (g k) W' + h' k * half n (g k) (g k))
      cross =
          half-add-left n W (λ s. h k * g k s) (λ s. W' s + h' k * g k s)
          ∙ omega (
            arith,
            half-add-right n W W' (λ s. h' k * g k s),
            half-mul-right n (h' k) W (g k),
            half-mul-left n (h k) (g k) (λ s. W' s + h' k * g k s),
            ap (λ (z : ℕ). h k * z)
                (half-add-right n (g k) W' (λ s. h' k * g k s)
                ∙ ap (λ (z : ℕ). half n (g k) W' + z) (half-mul-right n (h' k) (g k) (g k))),
          )
