-- The symplectic pairing of two rows. A row's powers are a function: X powers at 0 .. n-1, Z powers at n .. 2n-1.
-- Assumes nothing.
use mathlib.Core.Path.{◌≡◌, sym, ◌∙◌, ap}
use Prim.Native.Nat.{ℕ, suc, ◌+◌, ◌*◌, ◌<◌}
use native.Mathlib.Omega.{arith}
use native.Mathlib.Decide.{ℕ_discrete}
use Rattle.congruence.proofs.Congruence.{Cong, cong_add, cong_mul, cong_mul-left}
use Rattle.congruence.proofs.Sum.{sum, sum_congr, sum_cong, sum-add, sum-mul, sum-zero, unit, unit-same, unit-other, sum-unit}

-- Z powers of u times X powers of w, and the pairing modulo suc e, where e stands for -1.
abbrev pub half : ℕ → (ℕ → ℕ) → (ℕ → ℕ) → ℕ
half n u w = sum n (λ q. u (n + q) * w q)

abbrev pub pair : (e n : ℕ) → (ℕ → ℕ) → (ℕ → ℕ) → ℕ
pair e n u w = half n u w + e * half n w u

-- The half pairing is linear on either side.
module _ (n : ℕ) where
  pub half-add-left : (u x w : ℕ → ℕ) → half n (λ s. u s + x s) w ≡ half n u w + half n x w
  half-add-left u x w =
      sum_congr n (λ q. (u (n + q) + x (n + q)) * w q) (λ q. u (n + q) * w q + x (n + q) * w q) (λ q l. omega arith)
      ∙ sum-add n (λ q. u (n + q) * w q) (λ q. x (n + q) * w q)

  pub half-add-right : (w u x : ℕ → ℕ) → half n w (λ s. u s + x s) ≡ half n w u + half n w x
  half-add-right w u x =
      sum_congr n (λ q. w (n + q) * (u q + x q)) (λ q. w (n + q) * u q + w (n + q) * x q) (λ q l. omega arith)
      ∙ sum-add n (λ q. w (n + q) * u q) (λ q. w (n + q) * x q)

  pub half-mul-left : (c : ℕ) (u w : ℕ → ℕ) → half n (λ s. c * u s) w ≡ c * half n u w
  half-mul-left c u w =
      sum_congr n (λ q. c * u (n + q) * w q) (λ q. c * (u (n + q) * w q)) (λ q l. omega arith)
      ∙ sum-mul n c (λ q. u (n + q) * w q)

  pub half-mul-right : (c : ℕ) (w u : ℕ → ℕ) → half n w (λ s. c * u s) ≡ c * half n w u
  half-mul-right c w u =
      sum_congr n (λ q. w (n + q) * (c * u q)) (λ q. c * (w (n + q) * u q)) (λ q l. omega arith)
      ∙ sum-mul n c (λ q. w (n + q) * u q)

  pub half-none-left : (w : ℕ → ℕ) → half n (λ s. 0) w ≡ 0
  half-none-left w = sum_congr n (λ q. 0 * w q) (λ q. 0) (λ q l. omega arith) ∙ sum-zero n

  pub half-none-right : (w : ℕ → ℕ) → half n w (λ s. 0) ≡ 0
  half-none-right w = sum_congr n (λ q. w (n + q) * 0) (λ q. 0) (λ q l. omega arith) ∙ sum-zero n

  pub half_congr : (u x w y : ℕ → ℕ) → ((s : ℕ) → u s ≡ x s) → ((s : ℕ) → w s ≡ y s) → half n u w ≡ half n x y
  half_congr u x w y h k =
      sum_congr n (λ q. u (n + q) * w q) (λ q. x (n + q) * y q)
      (λ q l. ap (λ (z : ℕ). z * w q) (h (n + q)) ∙ ap (λ (z : ℕ). x (n + q) * z) (k q))

  pub half_cong : (d : ℕ) (u x w y : ℕ → ℕ)
      → ((s : ℕ) → s < n + n → Cong d (u s) (x s))
      → ((s : ℕ) → s < n + n → Cong d (w s) (y s))
      → Cong d (half n u w) (half n x y)
  half_cong d u x w y h k =
      sum_cong d n (λ q. u (n + q) * w q) (λ q. x (n + q) * y q)
      (λ q l. cong_mul (h (n + q) (omega arith)) (k q (omega arith)))

-- So is the pairing, and it alternates.
module _ (e n : ℕ) where
  pub pair-add-left : (u x w : ℕ → ℕ) → pair e n (λ s. u s + x s) w ≡ pair e n u w + pair e n x w
  pair-add-left u x w = omega (arith, half-add-left n u x w, ap (λ (z : ℕ). e * z) (half-add-right n w u x))

  pub pair-add-right : (w u x : ℕ → ℕ) → pair e n w (λ s. u s + x s) ≡ pair e n w u + pair e n w x
  pair-add-right w u x = omega (arith, half-add-right n w u x, ap (λ (z : ℕ). e * z) (half-add-left n u x w))

  pub pair_scale : (u w : ℕ → ℕ) (c : ℕ) → pair e n (λ s. c * u s) w ≡ c * pair e n u w
  pair_scale u w c = omega (arith, half-mul-left n c u w, ap (λ (z : ℕ). e * z) (half-mul-right n c w u))

  pub pair_scale_right : (w u : ℕ → ℕ) (c : ℕ) → pair e n w (λ s. c * u s) ≡ c * pair e n w u
  pair_scale_right w u c = omega (arith, half-mul-right n c w u, ap (λ (z : ℕ). e * z) (half-mul-left n c u w))

  pub pair_left : (u x w : ℕ → ℕ) (c : ℕ) → pair e n (λ s. u s + c * x s) w ≡ pair e n u w + c * pair e n x w
  pair_left u x w c = pair-add-left u (λ s. c * x s) w ∙ ap (λ (z : ℕ). pair e n u w + z) (pair_scale x w c)

  pub pair-right : (w u x : ℕ → ℕ) (c : ℕ) → pair e n w (λ s. u s + c * x s) ≡ pair e n w u + c * pair e n w x
  pair-right w u x c = pair-add-right w u (λ s. c * x s) ∙ ap (λ (z : ℕ). pair e n w u + z) (pair_scale_right w x c)

  pub pair-self : (u : ℕ → ℕ) → Cong (suc e) (pair e n u u) 0
  pair-self u = record { p = 0; q = half n u u; eq = omega arith }

  -- It changes its sign: u with w is e times w with u.
  pub pair_flip : (u w : ℕ → ℕ) → Cong (suc e) (pair e n u w) (e * pair e n w u)
  pair_flip u w = record { p = e * half n u w; q = half n u w; eq = omega arith }

  pub pair_cong : (u x w y : ℕ → ℕ)
      → ((s : ℕ) → s < n + n → Cong (suc e) (u s) (x s))
      → ((s : ℕ) → s < n + n → Cong (suc e) (w s) (y s))
      → Cong (suc e) (pair e n u w) (pair e n x y)
  pair_cong u x w y h k = cong_add (half_cong n (suc e) u x w y h k) (cong_mul-left e (half_cong n (suc e) w y u x k h))

  -- Rows that pair to 0 commute, and the other way round.
  pub pair→half : (u w : ℕ → ℕ) → Cong (suc e) (pair e n u w) 0 → Cong (suc e) (half n u w) (half n w u)
  pair→half u w c = record { p = c.p + half n w u; q = c.q; eq = omega (arith, c.eq) }

  pub half→pair : (u w : ℕ → ℕ) → Cong (suc e) (half n u w) (half n w u) → Cong (suc e) (pair e n u w) 0
  half→pair u w c = record { p = c.p; q = c.q + half n w u; eq = omega (arith, c.eq) }

-- X and Z on qudit q.
abbrev pub ex : (n q : ℕ) → ℕ → ℕ
ex n q = unit q

abbrev pub zed : (n q : ℕ) → ℕ → ℕ
zed n q = unit (n + q)

pub half-zed : (n q : ℕ) → q < n → (w : ℕ → ℕ) → half n (zed n q) w ≡ w q
half-zed n q l w =
    sum_congr n (λ i. unit (n + q) (n + i) * w i) (λ i. unit q i * w i) (λ i li. ap (λ (z : ℕ). z * w i) (go i (ℕ_discrete i q)))
    ∙ sum-unit n q w l
  where
    go : (i : ℕ) → Dec (i ≡ q) → unit (n + q) (n + i) ≡ unit q i
    go i (yes x) = unit-same (n + q) (n + i) (omega arith) ∙ sym (unit-same q i x)
    go i (no x) = unit-other (n + q) (n + i) (λ y. x (omega arith)) ∙ sym (unit-other q i x)

pub half-to-zed : (n q : ℕ) (w : ℕ → ℕ) → half n w (zed n q) ≡ 0
half-to-zed n q w =
    sum_congr n (λ i. w (n + i) * unit (n + q) i) (λ i. 0)
    (λ i li. ap (λ (z : ℕ). w (n + i) * z) (unit-other (n + q) i (omega arith)) ∙ omega arith)
    ∙ sum-zero n

pub pair-zed : (e n q : ℕ) → q < n → (w : ℕ → ℕ) → pair e n (zed n q) w ≡ w q
pair-zed e n q l w = omega (arith, half-zed n q l w, ap (λ (z : ℕ). e * z) (half-to-zed n q w))
