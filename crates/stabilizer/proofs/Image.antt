-- A map of rows that keeps the product keeps validity.
-- Assumes nothing.
use Prim.Native.Nat.{ℕ, suc, ◌+◌}
use Rattle.congruence.proofs.Congruence.{cong_trans}
use Rattle.symplectic.proofs.Map.{Hom, pair-map}
use Rattle.stabilizer.proofs.Basis.{SymplecticBasis}

module _ (e n : ℕ) (φ : (ℕ → ℕ) → ℕ → ℕ) (δ : (ℕ → ℕ) → ℕ) (hom : Hom (suc e) n φ δ) where
  pub valid-map : (v : ℕ → ℕ → ℕ) → SymplecticBasis e n v → SymplecticBasis e n (λ i. φ (v i))
  valid-map v ok =
      record {
        partners = λ i l. cong_trans (pair-map e n φ δ hom (v (n + i)) (v i)) (ok.partners i l);
        others = λ r s lr ls x y. cong_trans (pair-map e n φ δ hom (v r) (v s)) (ok.others r s lr ls x y);
      }
