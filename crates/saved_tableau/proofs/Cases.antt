-- Saved tableaus, and what layer, test and runs must say of them: antt computes each.
-- Assumes nothing.
use mathlib.Core.Path.{◌≡◌, refl}
use mathlib.Core.Bool.{true, false}
use mathlib.Core.List.{List, [], ◌∷◌}
use Prim.Native.Nat.{ℕ}
use lib.ListN.{replicate, set}
use Rattle.modular.specs.Dimension.{listed}
use Rattle.search.specs.Search.{all}
use Rattle.row.specs.Row.{tab, row_of, dot, pairing}
use Rattle.tableau.specs.Tableau.{part, put, each_row}
use Rattle.zero_tableau.specs.ZeroTableau.{zero_tableau}
use Rattle.validity.specs.Validity.{row_valid, valid}
use Rattle.saved_tableau.specs.Saved.{self_valid, valid_for}
use Rattle.saved_tableau.specs.Layer.{layer_number, layer_leaves}
use Rattle.saved_tableau.specs.Test.{test_number}

-- the zero tableau of one qutrit
abbrev zero_qutrit : List ℕ
zero_qutrit = 3 ∷ 1 ∷ 1 ∷ 0 ∷ 0 ∷ 0 ∷ 1 ∷ 0 ∷ []

-- it is laid over eight bytes, and a ninth is kept; seven are refused by 8 and left
laid :
    (layer_leaves 3 1 (replicate 9 7) ≡ 3 ∷ 1 ∷ 1 ∷ 0 ∷ 0 ∷ 0 ∷ 1 ∷ 0 ∷ 7 ∷ [])
    × (layer_number 3 1 (replicate 7 7) ≡ 8)
    × (layer_leaves 3 1 (replicate 7 7) ≡ replicate 7 7)
unfolding listed tab row_of part put each_row zero_tableau layer_number layer_leaves
laid = (refl, refl, refl)

-- the test: 8 for two bytes, then 2, 3, 8 for all, and 9
tested :
    (test_number [] ≡ 8)
    × (test_number (4 ∷ []) ≡ 8)
    × (test_number (4 ∷ 0 ∷ []) ≡ 2)
    × (test_number (4 ∷ 1 ∷ []) ≡ 2)
    × (test_number (3 ∷ 0 ∷ []) ≡ 3)
    × (test_number (3 ∷ 65 ∷ []) ≡ 3)
    × (test_number (3 ∷ 1 ∷ 1 ∷ 0 ∷ 0 ∷ 0 ∷ 1 ∷ []) ≡ 8)
    × (test_number (3 ∷ 1 ∷ []) ≡ 8)
    × (test_number (set zero_qutrit 2 2) ≡ 9)
    × (test_number (set zero_qutrit 4 3) ≡ 9)
    × (test_number zero_qutrit ≡ 0)
unfolding listed all dot pairing part row_valid valid self_valid test_number
tested = (refl, refl, refl, refl, refl, refl, refl, refl, refl, refl, refl)

-- a run: the rows would be valid for 5 too, and two bytes that are out of range make no valid tableau
in_a_run :
    (valid_for 3 1 zero_qutrit ≡ true)
    × (valid_for 5 1 zero_qutrit ≡ false)
    × (valid_for 3 2 zero_qutrit ≡ false)
    × (valid_for 3 1 (set zero_qutrit 0 5) ≡ false)
    × (valid_for 5 1 (set zero_qutrit 0 5) ≡ true)
    × (self_valid (set zero_qutrit 0 4) ≡ false)
    × (self_valid (3 ∷ 0 ∷ []) ≡ false)
unfolding listed all dot pairing part row_valid valid self_valid valid_for
in_a_run = (refl, refl, refl, refl, refl, refl, refl)
