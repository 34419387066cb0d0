-- A book and what its direct run returns, whole, halted and going on: antt computes each.
-- Assumes nothing.
use mathlib.Core.Path.{◌≡◌, refl}
use mathlib.Core.List.{List, [], ◌∷◌}
use Prim.Native.Nat.{ℕ}
use Rattle.modular.specs.Dimension.{listed}
use Rattle.search.specs.Search.{all, first_not}
use Rattle.row.specs.Row.{tab, row_of, dot, product, power, pairing}
use Rattle.row_laws.specs.Scalar.{scalar}
use Rattle.tableau.specs.Tableau.{part, put, each_row}
use Rattle.validity.specs.Validity.{row_valid, valid}
use Rattle.saved_tableau.specs.Saved.{self_valid, valid_for}
use Rattle.operation.specs.Error.{error_row}
use Rattle.circuit.specs.Circuit.{measured, chosen}
use Rattle.book_entries.specs.Entry.{decoded, error_at}
use Rattle.book_body.specs.Body.{bad_operation, measurements, choice_takers, good_error, bad_error, bad_choice, read_bodies}
use Rattle.book.specs.Book.{header_fits, entry_fits, bad_contents, read_book, body_of}
use Rattle.book.specs.Decoded.{operations_of, errors_of}
use Rattle.measurement.specs.Look.{pivot_of, combination, weighted, look}
use Rattle.runs.specs.Run.{steps_from, with_result}
use Rattle.runs.specs.Direct.{errors_on_rows, direct_look, reset_rows, direct_kind, direct_errors, direct_step, direct_run}
use Rattle.halts.specs.Halt.{direct_stage, direct_to}
use Rattle.direct_book.specs.DirectBook.{DirectLeft, direct_tested, direct_by, direct_book}
use Rattle.direct_book.specs.GoOn.{go_on_book}

-- d 3, n 1; a measurement with the choice 1, and no error
abbrev book : List ℕ
book =
    81 ∷ 3 ∷ 1 ∷ 3 ∷ 1 ∷ 0 ∷ 22 ∷ 0 ∷ 4 ∷ 0 ∷ 2 ∷ 0 ∷ 26 ∷ 0 ∷ 0 ∷ 0 ∷ 3 ∷ 0 ∷ 26 ∷ 0 ∷ 1 ∷ 0
    ∷ 6 ∷ 0 ∷ 0 ∷ 0 ∷ 1 ∷ []

-- a tableau that is too short, and has a byte of d, is refused by 8
too_short : direct_book book (3 ∷ 1 ∷ 3 ∷ []) [] ≡ record { number = 8; place = 0; next = 0; tableau = 3 ∷ 1 ∷ 3 ∷ []; results = [] }
unfolding listed all first_not valid decoded bad_operation measurements choice_takers bad_error bad_choice read_bodies header_fits entry_fits bad_contents read_book direct_tested direct_by direct_book
too_short = refl

-- the zero tableau of a qudit of dimension 5, whose rows would be valid for 3 too, is refused by 9
abbrev of_five : List ℕ
of_five = 5 ∷ 1 ∷ 1 ∷ 0 ∷ 0 ∷ 0 ∷ 1 ∷ 0 ∷ []

another : direct_book book of_five (7 ∷ 7 ∷ []) ≡ record { number = 9; place = 0; next = 0; tableau = of_five; results = 7 ∷ 7 ∷ [] }
unfolding listed all first_not measured chosen decoded bad_operation measurements choice_takers bad_error bad_choice read_bodies header_fits entry_fits bad_contents read_book body_of operations_of tab valid_for direct_tested direct_by direct_book
another = refl

-- a measurement and then no operation: refused by 5 at 1, before a buffer is asked for
abbrev bad-second : List ℕ
bad-second =
    81 ∷ 3 ∷ 1 ∷ 3 ∷ 1 ∷ 0 ∷ 22 ∷ 0 ∷ 8 ∷ 0 ∷ 2 ∷ 0 ∷ 30 ∷ 0 ∷ 0 ∷ 0 ∷ 3 ∷ 0 ∷ 30 ∷ 0 ∷ 1 ∷ 0
    ∷ 6 ∷ 0 ∷ 0 ∷ 0 ∷ 9 ∷ 0 ∷ 0 ∷ 0 ∷ 1 ∷ []

bad : (direct_book bad-second [] [] ≡ record { number = 5; place = 1; next = 0; tableau = []; results = [] })
    × (go_on_book bad-second 9 0 [] [] ≡ record { number = 5; place = 1; next = 0; tableau = []; results = [] })
unfolding listed all first_not decoded bad_operation measurements choice_takers bad_error bad_choice read_bodies header_fits entry_fits bad_contents read_book direct_tested direct_by direct_book go_on_book
bad = (refl, refl)

-- The book has one operation, so a finished run's number is 2. No operation from the first, one, and one more; from a finished run nothing
-- is done; the number after that is refused by 13, and a tableau that is not valid by 9 before it.
abbrev zero_qutrit : List ℕ
zero_qutrit = 3 ∷ 1 ∷ 1 ∷ 0 ∷ 0 ∷ 0 ∷ 1 ∷ 0 ∷ []

abbrev leaves : (number place next : ℕ) (results : List ℕ) → DirectLeft
leaves number place next results = record { number = number; place = place; next = next; tableau = zero_qutrit; results = results }

goes :
    (go_on_book book 0 0 zero_qutrit (7 ∷ 7 ∷ []) ≡ leaves 0 1 0 (7 ∷ 7 ∷ []))
    × (go_on_book book 0 1 zero_qutrit (7 ∷ 7 ∷ []) ≡ leaves 0 1 1 (0 ∷ 0 ∷ []))
    × (go_on_book book 1 1 zero_qutrit (7 ∷ 7 ∷ []) ≡ leaves 0 1 2 (7 ∷ 7 ∷ []))
    × (direct_book book zero_qutrit (7 ∷ 7 ∷ []) ≡ leaves 0 1 2 (0 ∷ 0 ∷ []))
    × (go_on_book book 2 5 zero_qutrit (7 ∷ 7 ∷ []) ≡ leaves 0 1 2 (7 ∷ 7 ∷ []))
    × (go_on_book book 3 0 zero_qutrit (7 ∷ 7 ∷ []) ≡ leaves 13 0 0 (7 ∷ 7 ∷ []))
    × (go_on_book book 3 0 of_five (7 ∷ 7 ∷ []) ≡ record { number = 9; place = 0; next = 0; tableau = of_five; results = 7 ∷ 7 ∷ [] })
unfolding listed all first_not measured chosen decoded error_at bad_operation measurements choice_takers bad_error bad_choice read_bodies header_fits entry_fits bad_contents read_book body_of operations_of errors_of tab self_valid valid_for valid row_valid pairing dot part look pivot_of combination weighted product power scalar row_of steps_from with_result errors_on_rows direct_look direct_kind direct_errors direct_step direct_run direct_stage direct_to direct_tested direct_by direct_book go_on_book
goes = (refl, refl, refl, refl, refl, refl, refl)

-- A reset, a measurement and a correction by its result, and X after all: three operations, one measurement, two choices. Two bytes are
-- enough for its results; the correction reads the lent one, 5 as 2; the error comes at the finish.
abbrev reused : List ℕ
reused =
    81 ∷ 3 ∷ 1 ∷ 3 ∷ 1 ∷ 0 ∷ 22 ∷ 0 ∷ 12 ∷ 0 ∷ 2 ∷ 0 ∷ 34 ∷ 0 ∷ 5 ∷ 0 ∷ 3 ∷ 0 ∷ 39 ∷ 0 ∷ 2 ∷ 0
    ∷ 7 ∷ 0 ∷ 0 ∷ 0 ∷ 6 ∷ 0 ∷ 0 ∷ 0 ∷ 8 ∷ 0 ∷ 0 ∷ 0 ∷ 3 ∷ 0 ∷ 0 ∷ 1 ∷ 0 ∷ 2 ∷ 1 ∷ []

abbrev level_1 : List ℕ
level_1 = 3 ∷ 1 ∷ 1 ∷ 0 ∷ 0 ∷ 0 ∷ 1 ∷ 2 ∷ []

reuses :
    (go_on_book reused 0 2 zero_qutrit (7 ∷ 7 ∷ []) ≡ leaves 0 1 2 (0 ∷ 0 ∷ []))
    × (go_on_book reused 2 1 zero_qutrit (5 ∷ 7 ∷ []) ≡ record { number = 0; place = 1; next = 3; tableau = level_1; results = 5 ∷ 7 ∷ [] })
    × (go_on_book reused 3 9 zero_qutrit (0 ∷ 0 ∷ []) ≡ record { number = 0; place = 1; next = 4; tableau = level_1; results = 0 ∷ 0 ∷ [] })
    × (direct_book reused zero_qutrit (7 ∷ 7 ∷ []) ≡ record { number = 0; place = 1; next = 4; tableau = level_1; results = 0 ∷ 0 ∷ [] })
unfolding listed all first_not measured chosen decoded error_at bad_operation measurements choice_takers good_error bad_error bad_choice read_bodies header_fits entry_fits bad_contents read_book body_of operations_of errors_of tab self_valid valid_for valid row_valid pairing dot part put each_row error_row reset_rows look pivot_of combination weighted product power scalar row_of steps_from with_result errors_on_rows direct_look direct_kind direct_errors direct_step direct_run direct_stage direct_to direct_tested direct_by direct_book go_on_book
reuses = (refl, refl, refl, refl)
