-- The test of valid tableaus tests exactly what makes them valid. It pairs each two rows once; the pairing in the other order is
-- the opposite, and a row's with itself is 0.
-- Assumes nothing.
use mathlib.Core.Path.{◌≡◌, ap, ◌∙◌}
use mathlib.Core.Bool.{true, cond}
use mathlib.Core.List.{List}
use Prim.Native.Nat.{ℕ, ◌+◌, ◌*◌, ◌<◌, ◌≤◌}
use native.Mathlib.Decide.{dec_lt, ℕ_discrete}
use native.Mathlib.Omega.{arith}
use lib.Dec.{eqb}
use lib.ListN.{length}
use borrow.Author.Tests.{ltb-true, eqb-true, lt-ltb, eq-eqb, ne_eqb}
use Rattle.modular.specs.Modular.{neg}
use Rattle.modular.proofs.Residue.{neg-zero}
use Rattle.row.specs.Row.{pairing}
use Rattle.search.specs.Search.{all}
use Rattle.search.proofs.Search.{both, all-at, all_from}
use Rattle.tableau.specs.Tableau.{Tableau, row}
use Rattle.row_laws.proofs.Laws.{pairing-self, pairing_opposite}
use Rattle.validity.specs.Validity.{byte_below, pairs_well, row_valid, valid, Valid, ValidExactly}

-- room, and bytes that pass their test
pub bytes-tableau : (d n : ℕ) (t : List ℕ) → 2 * n * (2 * n + 1) ≤ length t → all (byte_below d t) (2 * n * (2 * n + 1)) ≡ true → Tableau d n t
bytes-tableau d n t room e = record { room = room; below = λ k l. ltb-true _ _ (all-at (byte_below d t) _ e k l) }

pub valid-tableau : (d n : ℕ) (t : List ℕ) → Valid d n t → Tableau d n t
valid-tableau d n t v = record { room = v.room; below = v.below }

module _ (d n : ℕ) (p : 0 < d) (t : List ℕ) where
  -- what the test says of a row and an earlier one
  pairs-at : all (row_valid d n t) (2 * n) ≡ true → (i j : ℕ) → i < 2 * n → j < i → pairing d n (row n t i) (row n t j) ≡ cond (eqb i (n + j)) 1 0
  unfolding row_valid
  pairs-at e i j h l = eqb-true _ _ (all-at (pairs_well d n t i) i (all-at (row_valid d n t) (2 * n) e i h) j l)

  module _ (e : all (row_valid d n t) (2 * n) ≡ true) where
    partners : (i : ℕ) → i < n → pairing d n (row n t (n + i)) (row n t i) ≡ 1
    partners i h = pairs-at e (n + i) i (omega arith) (omega arith) ∙ rw (eq-eqb (n + i) (n + i))

    earlier : (i j : ℕ) → i < 2 * n → j < i → ¬ (i ≡ n + j) → pairing d n (row n t i) (row n t j) ≡ 0
    earlier i j h l a = pairs-at e i j h l ∙ rw (ne_eqb i (n + j) a)

    others : (i j : ℕ) → i < 2 * n → j < 2 * n → ¬ (i ≡ n + j) → ¬ (j ≡ n + i) → pairing d n (row n t i) (row n t j) ≡ 0
    others i j hi hj a b = by (dec_lt j i) (ℕ_discrete i j)
      where
        by : Dec (j < i) → Dec (i ≡ j) → pairing d n (row n t i) (row n t j) ≡ 0
        by (yes l) q = earlier i j hi l a
        by (no l) (yes q) = rw q (pairing-self d n p (row n t j))
        by (no l) (no q) = pairing_opposite d n p (row n t j) (row n t i) ∙ ap (neg d) (earlier j i hj (omega arith) b) ∙ neg-zero d p

  rows-from : Valid d n t → (i : ℕ) → i < 2 * n → row_valid d n t i ≡ true
  unfolding row_valid
  rows-from v i h = all_from (pairs_well d n t i) i (λ j l. eq-eqb _ _ (by j l (ℕ_discrete i (n + j))))
    where
      by : (j : ℕ) → j < i → Dec (i ≡ n + j) → pairing d n (row n t i) (row n t j) ≡ cond (eqb i (n + j)) 1 0
      by j l (yes q) = rw (q, eq-eqb (n + j) (n + j)) (v.partners j (omega arith))
      by j l (no q) = rw (ne_eqb i (n + j) q) (v.others i j h (omega arith) q (λ z. omega arith))

pub valid-exactly : ValidExactly
unfolding valid
valid-exactly d n dim t room = (
  λ e.
      let b = both (all (byte_below d t) (2 * n * (2 * n + 1))) (all (row_valid d n t) (2 * n)) e in
      record {
        room = room;
        below = (bytes-tableau d n t room b.0).below;
        partners = partners d n p t b.1;
        others = others d n p t b.1;
      },
  λ v.
      rw
      (all_from (byte_below d t) (2 * n * (2 * n + 1)) (λ k l. lt-ltb _ _ (v.below k l)), all_from (row_valid d n t) (2 * n) (rows-from d n p t v)),
)
  where
    p : 0 < d
    p = omega (arith, dim.low)
