-- Worked sheets, for d = 3.
-- Assumes nothing.
use mathlib.Core.Path.{◌≡◌, refl}
use mathlib.Core.List.{List, [], ◌∷◌}
use Prim.Native.Nat.{ℕ}
use Rattle.row.specs.Row.{tab}
use Rattle.tableau.specs.Tableau.{part, put, each_row}
use Rattle.operation.specs.declared.Operation.{Operation}
use Rattle.operation.specs.declared.Operation.TheVariants.{Fourier, Sum, Measure, Reset, Correct}
use Rattle.operation.specs.declared.WeylError.{WeylError}
use Rattle.operation.specs.Gate.{gate_powers}
use Rattle.operation.specs.Error.{error_frame}
use Rattle.circuit.specs.Circuit.{measured}
use Rattle.runs.specs.Frame.{errors_on_frame}
use Rattle.runs.specs.Raised.{carry_by, frame_before, carried}
use Rattle.modular.specs.Dimension.{listed}
use Rattle.search.specs.Search.{first_not}
use Rattle.book_entries.specs.Entry.{decoded, error_at}
use Rattle.book_body.specs.Body.{bad_operation, measurements, choice_takers, good_error, bad_error, bad_choice, read_bodies}
use Rattle.book.specs.Book.{header_fits, entry_fits, bad_contents, read_book, body_of}
use Rattle.book.specs.Decoded.{operations_of, errors_of}
use Rattle.sheet.specs.SheetBook.{sheet_by_answer, sheet_book}
use Rattle.sheet.specs.Weights.{weights_of, sheet_row, sheet_in, weighed}

-- Fourier 0, SUM 0 1, then both qudits are measured.
abbrev circuit : List Operation
circuit = Fourier 0 1 ∷ Sum 0 1 1 ∷ Measure 0 ∷ Measure 1 ∷ []

abbrev entry : (place qudit p s : ℕ) → WeylError
entry place qudit p s = record { place = place; qudit = qudit; p = p; s = s }

-- An error before everything: its Z power reaches both results. One between the measurements: the first has 0 and 0. One at the
-- place of the first measurement reaches it. One after all operations reaches none. The powers are any, 0 among them.
abbrev errors : List WeylError
errors = entry 0 0 2 1 ∷ entry 2 0 1 1 ∷ entry 3 1 0 0 ∷ entry 4 0 1 1 ∷ []

-- p weight, then s weight, measurement by measurement; two bytes past the sheet are kept
worked : sheet_in 3 2 circuit errors (9 ∷ 9 ∷ 9 ∷ 9 ∷ 9 ∷ 9 ∷ 9 ∷ 9 ∷ 9 ∷ 9 ∷ 9 ∷ 9 ∷ 9 ∷ 9 ∷ 9 ∷ 9 ∷ 7 ∷ 8 ∷ [])
    ≡ 0 ∷ 2 ∷ 0 ∷ 2
    ∷ 1 ∷ 0 ∷ 0 ∷ 0
    ∷ 0 ∷ 0 ∷ 1 ∷ 0
    ∷ 0 ∷ 0 ∷ 0 ∷ 0
    ∷ 7 ∷ 8 ∷ []
unfolding each_row part put sheet_row weights_of tab measured carried carry_by frame_before errors_on_frame error_frame gate_powers
worked = refl

-- the sums of powers times weights are the shifts of the book's own results: 3 and 2
sums : (weighed 3 2 circuit errors 0 4 ≡ 3) × (weighed 3 2 circuit errors 1 4 ≡ 2)
unfolding weighed carried carry_by frame_before errors_on_frame error_frame gate_powers
sums = (refl, refl)

-- The sheet follows shifts through corrections and resets: X before the first measurement shifts it by 1, the corrected qudit by −1, and
-- after a reset nothing.
corrected : sheet_in 3 2 (Measure 0 ∷ Correct 1 0 ∷ Measure 1 ∷ Reset 1 ∷ Measure 1 ∷ []) (entry 0 0 2 2 ∷ entry 2 1 1 1 ∷ []) (9 ∷ 9 ∷ 9 ∷ 9 ∷ 9 ∷ 9 ∷ 9 ∷ 9 ∷ 9 ∷ 9 ∷ 9 ∷ 9 ∷ [])
    ≡ 1 ∷ 0 ∷ 2 ∷ 0 ∷ 0 ∷ 0
    ∷ 0 ∷ 0 ∷ 1 ∷ 0 ∷ 0 ∷ 0 ∷ []
unfolding each_row part put sheet_row weights_of tab measured carried carry_by frame_before errors_on_frame error_frame gate_powers
corrected = refl

-- 01's book: the same circuit, and the one error X on qudit 1 before operation 2, which shifts the second result alone.
abbrev book : List ℕ
book =
    81 ∷ 3 ∷ 2 ∷ 3
    ∷ 1 ∷ 0 ∷ 22 ∷ 0 ∷ 16 ∷ 0 ∷ 2 ∷ 0 ∷ 38 ∷ 0 ∷ 5 ∷ 0 ∷ 3 ∷ 0 ∷ 43 ∷ 0 ∷ 2 ∷ 0
    ∷ 0 ∷ 0 ∷ 0 ∷ 0 ∷ 2 ∷ 0 ∷ 1 ∷ 0 ∷ 6 ∷ 0 ∷ 0 ∷ 0 ∷ 6 ∷ 1 ∷ 0 ∷ 0
    ∷ 2 ∷ 0 ∷ 1 ∷ 1 ∷ 0
    ∷ 2 ∷ 0 ∷ []

-- Its sheet has 4 bytes: a longer buffer keeps its rest, a shorter one is refused by 8; a book that ends early is refused by 1.
abbrev Answers : Type 0
Answers =
    (sheet_book book (9 ∷ 9 ∷ 9 ∷ 9 ∷ 7 ∷ []) ≡ record { number = 0; place = 2; sheet = 0 ∷ 0 ∷ 1 ∷ 0 ∷ 7 ∷ [] })
    × (sheet_book book (9 ∷ 9 ∷ 9 ∷ []) ≡ record { number = 8; place = 0; sheet = 9 ∷ 9 ∷ 9 ∷ [] })
    × (sheet_book (81 ∷ 3 ∷ []) (9 ∷ []) ≡ record { number = 1; place = 0; sheet = 9 ∷ [] })

answers : Answers
unfolding listed first_not tab decoded error_at measurements choice_takers bad_operation good_error bad_error bad_choice read_bodies header_fits entry_fits bad_contents read_book body_of operations_of errors_of sheet_by_answer sheet_book each_row part put sheet_row weights_of measured carried carry_by frame_before errors_on_frame error_frame gate_powers
answers = (refl, refl, refl)
