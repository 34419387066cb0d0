-- Bodies that must be judged so: antt computes each.
-- Assumes nothing.
use Rattle.std.proofs.Common.{Some, None}
use mathlib.Core.Path.{◌≡◌, refl}
use mathlib.Core.List.{List, [], ◌∷◌}
use Prim.Native.Nat.{ℕ}
use Rattle.search.specs.Search.{first_not}
use Rattle.book_entries.specs.Entry.{decoded, error_at}
use Rattle.book_body.specs.Body.{bad_operation, measurements, choice_takers, good_error, bad_error, bad_choice, refused, accepted, read_bodies}

-- the first bad one, and not the last
pub first-bad : bad_operation 3 2 (0 ∷ 2 ∷ 0 ∷ 0 ∷ 9 ∷ 0 ∷ 0 ∷ 0 ∷ []) ≡ Some 0
unfolding first_not decoded measurements bad_operation
first-bad = refl

-- With one operation, place 1 is after all and place 2 too high; a place may stay and not fall.
pub places :
    (bad_error 3 2 1 (1 ∷ 0 ∷ 0 ∷ 0 ∷ 0 ∷ 1 ∷ 0 ∷ 1 ∷ 2 ∷ 2 ∷ []) ≡ None) × (bad_error 3 2 1 (2 ∷ 0 ∷ 0 ∷ 0 ∷ 0 ∷ []) ≡ Some 0)
    × (bad_error 3 2 1 (1 ∷ 0 ∷ 0 ∷ 0 ∷ 0 ∷ 0 ∷ 0 ∷ 0 ∷ 0 ∷ 0 ∷ []) ≡ Some 1)
    × (bad_error 3 2 1 (0 ∷ 0 ∷ 2 ∷ 0 ∷ 0 ∷ []) ≡ Some 0) × (bad_error 3 2 1 (0 ∷ 0 ∷ 0 ∷ 3 ∷ 0 ∷ []) ≡ Some 0)
    × (bad_error 3 2 1 (0 ∷ 0 ∷ 0 ∷ 0 ∷ 3 ∷ []) ≡ Some 0)
unfolding first_not error_at good_error bad_error
places = (refl, refl, refl, refl, refl, refl)

-- The smaller count comes before a bad value; a choice is below d.
pub choices :
    (bad_choice 3 2 (7 ∷ []) ≡ Some 1) × (bad_choice 3 1 (7 ∷ 0 ∷ []) ≡ Some 1)
    × (bad_choice 3 2 (2 ∷ 3 ∷ []) ≡ Some 1) × (bad_choice 3 1 (2 ∷ []) ≡ None)
unfolding first_not bad_choice
choices = (refl, refl, refl, refl)

-- 5 comes before 6, and 6 before 7
pub order :
    (read_bodies 3 2 (9 ∷ 0 ∷ 0 ∷ 0 ∷ []) (9 ∷ 0 ∷ 0 ∷ 0 ∷ 0 ∷ []) (0 ∷ []) ≡ refused 5 0)
    × (read_bodies 3 2 (0 ∷ 0 ∷ 0 ∷ 0 ∷ []) (9 ∷ 0 ∷ 0 ∷ 0 ∷ 0 ∷ []) (0 ∷ []) ≡ refused 6 0)
    × (read_bodies 3 2 (0 ∷ 0 ∷ 0 ∷ 0 ∷ []) [] (0 ∷ []) ≡ refused 7 0) × (read_bodies 3 2 [] [] [] ≡ accepted 3 2 0 0 0)
unfolding first_not decoded error_at good_error measurements choice_takers bad_operation bad_error bad_choice read_bodies
order = (refl, refl, refl, refl)

-- A correction names an earlier measurement, and neither one that comes later nor a reset; its number is of two bytes, low first.
pub names :
    (bad_operation 3 2 (6 ∷ 0 ∷ 0 ∷ 0 ∷ 8 ∷ 1 ∷ 0 ∷ 0 ∷ []) ≡ None) × (bad_operation 3 2 (8 ∷ 1 ∷ 0 ∷ 0 ∷ 6 ∷ 0 ∷ 0 ∷ 0 ∷ []) ≡ Some 0)
    × (bad_operation 3 2 (6 ∷ 0 ∷ 0 ∷ 0 ∷ 8 ∷ 1 ∷ 1 ∷ 0 ∷ 6 ∷ 0 ∷ 0 ∷ 0 ∷ []) ≡ Some 1)
    × (bad_operation 3 2 (7 ∷ 0 ∷ 0 ∷ 0 ∷ 8 ∷ 1 ∷ 0 ∷ 0 ∷ []) ≡ Some 1) × (bad_operation 3 2 (6 ∷ 0 ∷ 0 ∷ 0 ∷ 8 ∷ 1 ∷ 0 ∷ 1 ∷ []) ≡ Some 1)
    × (bad_operation 3 2 (6 ∷ 0 ∷ 0 ∷ 0 ∷ 6 ∷ 0 ∷ 0 ∷ 0 ∷ 8 ∷ 1 ∷ 1 ∷ 0 ∷ []) ≡ None)
unfolding first_not decoded measurements bad_operation
names = (refl, refl, refl, refl, refl, refl)

-- A measurement and a reset take a choice each, a correction and a gate none; the measurement alone is counted as one.
abbrev ops : List ℕ
ops = 6 ∷ 0 ∷ 0 ∷ 0 ∷ 7 ∷ 1 ∷ 0 ∷ 0 ∷ 8 ∷ 1 ∷ 0 ∷ 0 ∷ 0 ∷ 1 ∷ 0 ∷ 0 ∷ []

pub counts :
    (choice_takers ops 4 ≡ 2) × (measurements ops 4 ≡ 1) × (read_bodies 3 2 ops [] (2 ∷ 1 ∷ []) ≡ accepted 3 2 4 0 2) × (read_bodies 3 2 ops [] (2 ∷ []) ≡ refused 7 1)
unfolding first_not decoded error_at good_error measurements choice_takers bad_operation bad_error bad_choice read_bodies
counts = (refl, refl, refl, refl)
