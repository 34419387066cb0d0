-- The tests of a saved tableau test exactly what makes it valid.
-- Assumes nothing.
use mathlib.Core.Path.{◌≡◌, sym, ◌∙◌}
use mathlib.Core.Bool.{Bool, true, ◌&&◌}
use mathlib.Core.Logic.{◌↔◌}
use mathlib.Core.List.{List, ◌∷◌}
use Prim.Native.Nat.{ℕ, ◌≤◌}
use native.Mathlib.Omega.{arith}
use lib.Dec.{eqb, leb}
use lib.ListN.{length, length-drop}
use borrow.Author.Tests.{le-leb, eqb-true, eq-eqb}
use Rattle.modular.specs.Dimension.{listed}
use Rattle.modular.proofs.Listed.{dimension}
use Rattle.search.proofs.Search.{both, met}
use Rattle.tableau.specs.Tableau.{sized}
use Rattle.validity.specs.Validity.{Valid, valid}
use Rattle.validity.proofs.Exactly.{valid-exactly}
use Rattle.saved_tableau.specs.Saved.{dimension_in, qudits_in, rows_in, tableau_bytes, self_valid, names, valid_for}
use Rattle.saved_tableau.specs.Test.{test_number}
use Rattle.saved_tableau_laws.specs.Exactly.{SelfValid, SelfValidExactly, TestExactly}
use Rattle.saved_tableau_laws.proofs.Shape.{shaped}

true_and : (a b : Bool) → a ≡ true → a && b ≡ b
true_and a b e = rw e

module _ (t : List ℕ) where
  -- where both bytes are in range, the rows decide
  pub rows_decide : listed (dimension_in t) ≡ true → sized (qudits_in t) ≡ true → self_valid t ≡ valid (dimension_in t) (qudits_in t) (rows_in t)
  unfolding self_valid
  rows_decide h k = true_and (listed (dimension_in t)) _ h ∙ true_and (sized (qudits_in t)) _ k

  module _ (room : tableau_bytes (qudits_in t) ≤ length t) where
    rows-exactly : listed (dimension_in t) ≡ true
        → (valid (dimension_in t) (qudits_in t) (rows_in t) ≡ true) ↔ Valid (dimension_in t) (qudits_in t) (rows_in t)
    rows-exactly h = valid-exactly (dimension_in t) (qudits_in t) (dimension (dimension_in t) h) (rows_in t) (omega (arith, length-drop 2 t))

    facts : self_valid t ≡ true → SelfValid t
    unfolding self_valid
    facts e =
        let a = both (listed (dimension_in t)) _ e in
        let b = both (sized (qudits_in t)) _ a.1 in
        record { dimension = a.0; qudits = b.0; rows = (rows-exactly a.0).0 b.1 }

    test : SelfValid t → self_valid t ≡ true
    test v = rows_decide v.dimension v.qudits ∙ (rows-exactly v.dimension).1 v.rows

pub self-valid-exactly : SelfValidExactly
self-valid-exactly t room = (facts t room, test t room)

-- the tableau test passes a valid tableau that has its bytes, and no other
passed : (t : List ℕ) → test_number t ≡ 0 → (tableau_bytes (qudits_in t) ≤ length t) × (self_valid t ≡ true)
unfolding test_number
passed t e =
    let p = met (leb 2 (length t)) (λ z. omega arith) e in
    let k = shaped (dimension_in t) (qudits_in t) t _ p.1 in
    let p9 = met (self_valid t) (λ z. omega arith) (sym (k.rest_decides _) ∙ p.1) in
    (k.room, p9.0)

passes : (t : List ℕ) → (tableau_bytes (qudits_in t) ≤ length t) × (self_valid t ≡ true) → test_number t ≡ 0
unfolding test_number
passes t (room, e) =
    let v = facts t room e in
    rw (le-leb 2 (length t) (omega arith), v.dimension, v.qudits, le-leb (tableau_bytes (qudits_in t)) (length t) room, e)

pub test-exactly : TestExactly
test-exactly t = (passed t, passes t)

-- valid rows behind their d and n pass it
module _ (d n : ℕ) (rows : List ℕ) (h : listed d ≡ true) (k : sized n ≡ true) (v : Valid d n rows) where
  has_room : tableau_bytes n ≤ length (d ∷ n ∷ rows)
  has_room = omega (arith, v.room)

  saved_valid : self_valid (d ∷ n ∷ rows) ≡ true
  saved_valid = test (d ∷ n ∷ rows) has_room (record { dimension = h; qudits = k; rows = v })

  pub saved_passes : test_number (d ∷ n ∷ rows) ≡ 0
  saved_passes = passes (d ∷ n ∷ rows) (has_room, saved_valid)

-- what a run asks of a tableau
module _ {d n : ℕ} (t : List ℕ) where
  pub is-named : names d n t ≡ true → (dimension_in t ≡ d) × (qudits_in t ≡ n)
  is-named e = let a = both (eqb (dimension_in t) d) _ e in (eqb-true _ _ a.0, eqb-true _ _ a.1)

  pub valid-for : self_valid t ≡ true → dimension_in t ≡ d → qudits_in t ≡ n → valid_for d n t ≡ true
  unfolding valid_for
  valid-for e h k = rw (eq-eqb (dimension_in t) d h, eq-eqb (qudits_in t) n k, e)

  -- a run that is past 8 and 9 has valid rows, for the book's d and n
  pub valid-rows : tableau_bytes n ≤ length t → valid_for d n t ≡ true → Valid d n (rows_in t)
  unfolding valid_for
  valid-rows room e =
      let a = both (names d n t) _ e in
      let q = is-named a.0 in
      let r : tableau_bytes (qudits_in t) ≤ length t = rw q.1 room in
      rw (q.0, q.1) at (facts t r a.1).rows
