-- Books that the reader must judge so: antt computes each.
-- Assumes nothing.
use mathlib.Core.Path.{◌≡◌, refl}
use mathlib.Core.List.{List, [], ◌∷◌, ◌++◌}
use Prim.Native.Nat.{ℕ}
use lib.ListN.{set}
use Rattle.modular.specs.Dimension.{listed}
use Rattle.search.specs.Search.{first_not}
use Rattle.book_entries.specs.Entry.{decoded, error_at}
use Rattle.book_body.specs.Body.{bad_operation, measurements, choice_takers, good_error, bad_error, bad_choice, refused, accepted, read_bodies}
use Rattle.book.specs.Book.{header_fits, entry_fits, bad_contents, read_book, body_of}

-- d 3, n 2; Fourier on 0, SUM from 0 to 1, a measurement of each; an error at place 2; two choices
abbrev pub example : List ℕ
example =
    81 ∷ 3 ∷ 2 ∷ 3 ∷ 1 ∷ 0 ∷ 22 ∷ 0 ∷ 16 ∷ 0 ∷ 2 ∷ 0 ∷ 38 ∷ 0 ∷ 5 ∷ 0 ∷ 3 ∷ 0 ∷ 43 ∷ 0 ∷ 2 ∷ 0
    ∷ 0 ∷ 0 ∷ 0 ∷ 0 ∷ 2 ∷ 0 ∷ 1 ∷ 0 ∷ 6 ∷ 0 ∷ 0 ∷ 0 ∷ 6 ∷ 1 ∷ 0 ∷ 0 ∷ 2 ∷ 0 ∷ 1 ∷ 1 ∷ 0 ∷ 2 ∷ 0 ∷ []

pub example-accepted : read_book example ≡ accepted 3 2 4 1 2
unfolding listed first_not decoded error_at measurements choice_takers bad_operation good_error bad_error bad_choice read_bodies header_fits entry_fits bad_contents read_book
example-accepted = refl

-- its bodies are handed back by their kinds alone
pub example-bodies :
    (body_of example 1 ≡ 0 ∷ 0 ∷ 0 ∷ 0 ∷ 2 ∷ 0 ∷ 1 ∷ 0 ∷ 6 ∷ 0 ∷ 0 ∷ 0 ∷ 6 ∷ 1 ∷ 0 ∷ 0 ∷ [])
    × (body_of example 2 ≡ 2 ∷ 0 ∷ 1 ∷ 1 ∷ 0 ∷ []) × (body_of example 3 ≡ 2 ∷ 0 ∷ []) × (body_of example 0 ≡ []) × (body_of example 257 ≡ [])
unfolding body_of
example-bodies = (rw example-accepted, rw example-accepted, rw example-accepted, rw example-accepted, rw example-accepted)

-- of a refused book none is
refused-body : body_of (set example 1 9) 3 ≡ []
unfolding listed header_fits read_book body_of
refused-body = refl

-- 1, 2 and 3; 2 comes before 3, and 3 before 4
pub headers :
    (read_book [] ≡ refused 1 0) × (read_book (set example 1 9) ≡ refused 2 0) × (read_book (set example 2 65) ≡ refused 3 0)
    × (read_book (set (set example 1 9) 2 0) ≡ refused 2 0) × (read_book (set (set example 2 0) 4 2) ≡ refused 3 0)
unfolding listed header_fits read_book
headers = (refl, refl, refl, refl, refl)

-- d 31 and n 64 pass, d 37 and n 0 do not
pub sizes :
    (read_book (set example 1 31) ≡ accepted 31 2 4 1 2) × (read_book (set example 1 37) ≡ refused 2 0)
    × (read_book (set example 2 64) ≡ accepted 3 64 4 1 2) × (read_book (set example 2 0) ≡ refused 3 0)
unfolding listed first_not decoded error_at measurements choice_takers bad_operation good_error bad_error bad_choice read_bodies header_fits entry_fits bad_contents read_book
sizes = (refl, refl, refl, refl)

-- 4: kind, zero byte, offset and length of entry 1; a length that is whole and false shows as the next one's offset; a wrong end alone
pub contents :
    (read_book (set example 10 3) ≡ refused 4 1) × (read_book (set example 11 1) ≡ refused 4 1) × (read_book (set example 12 39) ≡ refused 4 1)
    × (read_book (set example 14 4) ≡ refused 4 1) × (read_book (set example 14 0) ≡ refused 4 2) × (read_book (example ++ (0 ∷ [])) ≡ refused 4 3)
unfolding listed header_fits entry_fits bad_contents read_book
contents = (refl, refl, refl, refl, refl, refl)

-- 5, 6 and 7: SUM of a qudit with itself; a place too high; a choice of d
pub bodies : (read_book (set example 28 0) ≡ refused 5 1) × (read_book (set example 38 5) ≡ refused 6 0) × (read_book (set example 44 3) ≡ refused 7 1)
unfolding listed first_not decoded error_at measurements choice_takers bad_operation good_error bad_error bad_choice read_bodies header_fits entry_fits bad_contents read_book
bodies = (refl, refl, refl)
