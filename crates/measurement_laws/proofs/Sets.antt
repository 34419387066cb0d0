-- Tableaus with the same stabilizer set: those with equal stabilizer rows have it, and it settles a stabilizer row by its powers.
-- Assumes nothing.
use mathlib.Core.Path.{◌≡◌, refl, sym, ◌∙◌}
use mathlib.Core.List.{List}
use Prim.Native.Nat.{ℕ, ◌+◌, ◌*◌, ◌<◌}
use native.Mathlib.Omega.{arith}
use lib.ListN.{get_or}
use Rattle.stabilizer.proofs.Member.{member-row}
use Rattle.modular.specs.Dimension.{Dimension}
use Rattle.tableau.specs.Tableau.{row}
use Rattle.validity.specs.Validity.{Valid}
use Rattle.measurement.proofs.Combination.{combination-same}
use Rattle.measurement_laws.specs.Stabilizers.{Stabilizes, SameSet}
use Rattle.validity_laws.proofs.View.{at-odd, reads_at}
use Rattle.measurement_laws.proofs.Combination.{stabs, signs, member_stabilizes}
use Rattle.measurement_laws.proofs.Certain.{one-member}

module _ (d n : ℕ) where
  same_rows : {t u : List ℕ} → ((i : ℕ) → i < n → row n t (n + i) ≡ row n u (n + i)) → (v : List ℕ) → Stabilizes d n t v → Stabilizes d n u v
  same_rows {t} {u} h v s =
      record {
        exponents = s.exponents;
        below = s.below;
        product_is = s.product_is ∙ combination-same d n t u s.exponents s.exponents n (λ i l. refl) h;
      }

  pub same_set : {t u : List ℕ} → ((i : ℕ) → i < n → row n t (n + i) ≡ row n u (n + i)) → SameSet d n t u
  same_set h v = (same_rows h v, same_rows (λ i l. sym (h i l)) v)

  pub same_back : {t u : List ℕ} → SameSet d n t u → SameSet d n u t
  same_back a v = ((a v).1, (a v).0)

  pub same_through : {t u w : List ℕ} → SameSet d n t u → SameSet d n u w → SameSet d n t w
  same_through a b v = (λ s. (b v).0 ((a v).0 s), λ s. (a v).1 ((b v).1 s))

module _ {d n : ℕ} (dim : Dimension d) where
  -- a stabilizer row is in the set
  own_row : {t : List ℕ} → Valid d n t → (i : ℕ) → i < n → Stabilizes d n t (row n t (n + i))
  own_row {t} ok i l =
      at-odd (λ z. Valid z n t → Stabilizes z n t (row n t (n + i)))
      (λ f k v. member_stabilizes f v (reads_at v (n + i) (omega arith)) (member-row _ n (stabs n t) (signs n t) i l))
      dim
      ok

  pub settled-row : {t u : List ℕ} → Valid d n t → Valid d n u → SameSet d n t u → (i : ℕ) → i < n
      → ((s : ℕ) → s < 2 * n → get_or (row n t (n + i)) s 0 ≡ get_or (row n u (n + i)) s 0)
      → row n t (n + i) ≡ row n u (n + i)
  settled-row {t} {u} ok ok' same i l = one-member d n dim u ok' _ _ ((same _).0 (own_row ok i l)) (own_row ok' i l)
