-- Books that the writer must make so, and bodies that it must refuse: antt computes each.
-- Assumes nothing.
use mathlib.Core.Path.{◌≡◌, refl}
use mathlib.Core.List.{List, [], ◌∷◌, ◌++◌}
use Prim.Native.Nat.{ℕ}
use lib.ListN.{replicate, set}
use Rattle.modular.specs.Dimension.{listed}
use Rattle.search.specs.Search.{first_not}
use Rattle.book_entries.specs.Entry.{decoded, error_at}
use Rattle.book_body.specs.Body.{bad_operation, measurements, choice_takers, good_error, bad_error, bad_choice, read_bodies}
use Rattle.book.specs.Book.{header_fits, entry_fits, bad_contents, read_book}
use Rattle.book.proofs.Cases.{example}
use Rattle.written_book.specs.Written.{head_of, book_of}
use Rattle.written_book.specs.Writer.{write_by_answer, write_book}

-- the three bodies of 01's example
abbrev ops : List ℕ
ops = 0 ∷ 0 ∷ 0 ∷ 0 ∷ 2 ∷ 0 ∷ 1 ∷ 0 ∷ 6 ∷ 0 ∷ 0 ∷ 0 ∷ 6 ∷ 1 ∷ 0 ∷ 0 ∷ []

abbrev errors : List ℕ
errors = 2 ∷ 0 ∷ 1 ∷ 1 ∷ 0 ∷ []

abbrev choices : List ℕ
choices = 2 ∷ 0 ∷ []

pub example-made : book_of 3 2 ops errors choices ≡ example
unfolding head_of book_of
example-made = refl

-- a buffer of so many sevens
abbrev sevens : ℕ → List ℕ
sevens k = replicate k 7

-- the writer refuses a buffer of so many sevens, and leaves it
abbrev Refuses : (d n : ℕ) (ops errors choices : List ℕ) (size number place : ℕ) → Type 0
Refuses d n ops errors choices size number place =
    write_book d n ops errors choices (sevens size) ≡ record { number = number; place = place; out = sevens size }

-- written with two bytes to spare, with none, and not with one too few
pub example-written :
    (write_book 3 2 ops errors choices (sevens 47) ≡ record { number = 0; place = 45; out = example ++ (7 ∷ 7 ∷ []) })
    × (write_book 3 2 ops errors choices (sevens 45) ≡ record { number = 0; place = 45; out = example }) × Refuses 3 2 ops errors choices 44 8 0
unfolding listed first_not decoded error_at measurements choice_takers bad_operation good_error bad_error bad_choice read_bodies header_fits entry_fits bad_contents read_book head_of book_of write_by_answer write_book
example-written = (refl, refl, refl)

-- 2 before 3, 3 before 4, each 4 before the next, 4 before 5; 259 is no 3
pub sizes-refused :
    Refuses 259 2 ops errors choices 45 2 0 × Refuses 9 0 ops errors choices 45 2 0 × Refuses 3 65 (0 ∷ []) errors choices 45 3 0
    × Refuses 3 2 (0 ∷ []) (0 ∷ []) choices 45 4 0 × Refuses 3 2 (set ops 0 7) (0 ∷ []) choices 45 4 1
unfolding listed header_fits entry_fits bad_contents read_book head_of book_of write_by_answer write_book
sizes-refused = (refl, refl, refl, refl, refl)

-- 5 before 6, 6 before 7, 7 before 8
pub bodies-refused :
    Refuses 3 2 (set ops 4 7) (set errors 0 5) choices 45 5 1 × Refuses 3 2 ops (set errors 0 5) (2 ∷ []) 45 6 0
    × Refuses 3 2 ops errors (2 ∷ 3 ∷ []) 0 7 1 × Refuses 3 2 ops errors (3 ∷ []) 0 7 1
unfolding listed first_not decoded error_at measurements choice_takers bad_operation good_error bad_error bad_choice read_bodies header_fits entry_fits bad_contents read_book head_of book_of write_by_answer write_book
bodies-refused = (refl, refl, refl, refl)
