-- Maps of rows that keep the product: they keep the pairing.
-- Assumes nothing.
use Prim.Native.Nat.{ℕ, suc, ◌+◌, ◌<◌}
use native.Mathlib.Omega.{arith}
use Rattle.congruence.proofs.Congruence.{Cong, cong_refl, cong_eq, cong_trans, cong_add}
use Rattle.symplectic.proofs.Pairing.{half, pair}

-- The same powers modulo d.
abbrev pub Same : (d n : ℕ) → (ℕ → ℕ) → (ℕ → ℕ) → Type 0
Same d n u w = (s : ℕ) → s < n + n → Cong d (u s) (w s)

-- φ maps powers, δ is what the phase gains: together they keep the product of rows.
pub record Hom (d n : ℕ) (φ : (ℕ → ℕ) → ℕ → ℕ) (δ : (ℕ → ℕ) → ℕ) : Type 0 where
  pub resp : (u w : ℕ → ℕ) → Same d n u w → Same d n (φ u) (φ w)
  pub gain : (u w : ℕ → ℕ) → Same d n u w → Cong d (δ u) (δ w)
  pub none : Same d n (φ (λ s. 0)) (λ s. 0)
  pub none-gain : Cong d (δ (λ s. 0)) 0
  pub add : (u w : ℕ → ℕ) → Same d n (φ (λ s. u s + w s)) (λ s. φ u s + φ w s)
  pub law : (u w : ℕ → ℕ) → Cong d (half n u w + δ (λ s. u s + w s)) (δ u + δ w + half n (φ u) (φ w))

module _ (e n : ℕ) (φ : (ℕ → ℕ) → ℕ → ℕ) (δ : (ℕ → ℕ) → ℕ) (hom : Hom (suc e) n φ δ) where
  abbrev d : ℕ
  d = suc e

  law-both : (a b x y α β γ : ℕ) → Cong d (a + α) (β + γ + x) → Cong d (b + α) (γ + β + y) → Cong d (x + b) (a + y)
  law-both a b x y α β γ h k = record { p = h.q + k.p; q = h.p + k.q; eq = omega arith }

  -- The difference of the two orders stays.
  pub swap : (u w : ℕ → ℕ) → Cong d (half n (φ u) (φ w) + half n w u) (half n u w + half n (φ w) (φ u))
  swap u w =
      law-both (half n u w) (half n w u) (half n (φ u) (φ w)) (half n (φ w) (φ u)) (δ (λ s. u s + w s)) (δ u) (δ w) (hom.law u w)
      (cong_trans (cong_add (cong_refl d (half n w u)) (hom.gain (λ s. u s + w s) (λ s. w s + u s) (λ s l. cong_eq d (omega arith)))) (hom.law w u))

  pub pair-map : (u w : ℕ → ℕ) → Cong d (pair e n (φ u) (φ w)) (pair e n u w)
  pair-map u w =
      record { p = half n w u + (swap u w).p; q = half n (φ w) (φ u) + (swap u w).q; eq = omega (arith, (swap u w).eq) }
