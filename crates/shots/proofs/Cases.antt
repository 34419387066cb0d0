-- A book and trays, and what is returned for them: antt computes each.
-- Assumes nothing.
use mathlib.Core.Path.{◌≡◌, refl}
use mathlib.Core.List.{List, [], ◌∷◌, ◌++◌}
use Prim.Native.Nat.{ℕ}
use lib.ListN.{replicate, set}
use Rattle.modular.specs.Dimension.{listed, inverse, power_of}
use Rattle.search.specs.Search.{all, first_not}
use Rattle.row.specs.Row.{tab, row_of, dot, product, power, pairing}
use Rattle.row.specs.Generators.{z_with}
use Rattle.tableau.specs.Tableau.{part, put, each_row}
use Rattle.operation.specs.Gate.{gate_powers, gate_phase, gate_row}
use Rattle.operation.specs.Error.{error_row, error_frame}
use Rattle.row_laws.specs.Scalar.{scalar}
use Rattle.validity.specs.Validity.{row_valid, valid}
use Rattle.saved_tableau.specs.Saved.{self_valid, valid_for}
use Rattle.measurement.specs.Look.{pivot_of, combination, weighted, look}
use Rattle.measurement.specs.Collapse.{collapse_row, collapse}
use Rattle.circuit.specs.Circuit.{measured, chosen}
use Rattle.book_entries.specs.Entry.{decoded, error_at}
use Rattle.book_body.specs.Body.{bad_operation, measurements, choice_takers, good_error, bad_error, bad_choice, read_bodies}
use Rattle.book.specs.Book.{header_fits, entry_fits, bad_contents, read_book, body_of}
use Rattle.book.specs.Decoded.{operations_of, errors_of}
use Rattle.runs.specs.Run.{steps_from, with_result}
use Rattle.runs.specs.Direct.{reset_rows}
use Rattle.runs.specs.Frame.{errors_on_frame, shift_row, verdict_of, frame_look, frame_kind, frame_errors, frame_step, frame_steps, frame_leaves, frame_run_from, frame_run}
use Rattle.tray.specs.Tray.{start_of, table_fits, bad_shot}
use Rattle.shots.specs.Shots.{shot_row, clean_among, shifted_among, tray_buffers_fit, tray_by_answer, tray_book}

-- d 3, n 1; a measurement, Fourier and a measurement, with the choices 1 and 2; at place 2 an X error, which no shot has
abbrev book : List ℕ
book =
    81 ∷ 3 ∷ 1 ∷ 3 ∷ 1 ∷ 0 ∷ 22 ∷ 0 ∷ 12 ∷ 0 ∷ 2 ∷ 0 ∷ 34 ∷ 0 ∷ 5 ∷ 0 ∷ 3 ∷ 0 ∷ 39 ∷ 0 ∷ 2 ∷ 0
    ∷ 6 ∷ 0 ∷ 0 ∷ 0 ∷ 0 ∷ 0 ∷ 0 ∷ 0 ∷ 6 ∷ 0 ∷ 0 ∷ 0 ∷ 2 ∷ 0 ∷ 0 ∷ 1 ∷ 0 ∷ 1 ∷ 2 ∷ []

-- three shots: no error; at place 2 an X error of power 1; one of power 2
abbrev tray : List ℕ
tray = 3 ∷ 0 ∷ 0 ∷ 0 ∷ 5 ∷ 0 ∷ 5 ∷ 0 ∷ 2 ∷ 0 ∷ 0 ∷ 1 ∷ 0 ∷ 2 ∷ 0 ∷ 0 ∷ 2 ∷ 0 ∷ []

-- the zero tableau
abbrev t : List ℕ
t = 3 ∷ 1 ∷ 1 ∷ 0 ∷ 0 ∷ 0 ∷ 1 ∷ 0 ∷ []

abbrev sevens : ℕ → List ℕ
sevens k = replicate k 7

-- the first outcome is 0 and certain, the second 2 and free, shifted by 1 and by 2; one byte more is lent, and kept
pub returned :
    (tray_book book tray t (sevens 16)
    ≡ record {
      number = 0;
      place = 1;
      shifted = 2;
      out = 0 ∷ 0 ∷ 0 ∷ 2 ∷ 1 ∷ 1 ∷ 0 ∷ 0 ∷ 0 ∷ 1 ∷ 1 ∷ 0 ∷ 0 ∷ 1 ∷ 1 ∷ 7 ∷ [];
    })
    × (tray_book book (0 ∷ 0 ∷ []) t (sevens 1) ≡ record { number = 0; place = 0; shifted = 0; out = 7 ∷ [] })
unfolding listed inverse power_of all first_not tab row_of dot product power pairing z_with scalar part put each_row gate_powers gate_phase gate_row error_frame row_valid valid self_valid valid_for pivot_of combination weighted look collapse_row collapse measured chosen decoded error_at bad_operation measurements choice_takers good_error bad_error bad_choice read_bodies header_fits entry_fits bad_contents read_book body_of operations_of errors_of steps_from with_result errors_on_frame shift_row verdict_of frame_look frame_kind frame_errors frame_step frame_steps frame_leaves frame_run_from frame_run start_of table_fits bad_shot shot_row clean_among shifted_among tray_buffers_fit tray_by_answer tray_book
returned = (refl, refl)

-- Fourier, a measurement and a reset, with the choices 2 and 1; two shots, the second with an X error before all
abbrev reset-book : List ℕ
reset-book =
    81 ∷ 3 ∷ 1 ∷ 3 ∷ 1 ∷ 0 ∷ 22 ∷ 0 ∷ 12 ∷ 0 ∷ 2 ∷ 0 ∷ 34 ∷ 0 ∷ 0 ∷ 0 ∷ 3 ∷ 0 ∷ 34 ∷ 0 ∷ 2 ∷ 0
    ∷ 0 ∷ 0 ∷ 0 ∷ 0 ∷ 6 ∷ 0 ∷ 0 ∷ 0 ∷ 7 ∷ 0 ∷ 0 ∷ 0 ∷ 2 ∷ 1 ∷ []

abbrev reset-tray : List ℕ
reset-tray = 2 ∷ 0 ∷ 0 ∷ 0 ∷ 5 ∷ 0 ∷ 0 ∷ 0 ∷ 0 ∷ 1 ∷ 0 ∷ []

-- A shot has one verdict byte and two bytes for each measurement, and none for a reset: three bytes here, six in all.
pub reset-shots :
    (tray_book reset-book reset-tray t (sevens 6) ≡ record { number = 0; place = 2; shifted = 0; out = 0 ∷ 2 ∷ 1 ∷ 0 ∷ 2 ∷ 1 ∷ [] })
    × (tray_book reset-book reset-tray t (sevens 5) ≡ record { number = 8; place = 0; shifted = 0; out = sevens 5 })
unfolding listed inverse power_of all first_not tab row_of dot product power pairing z_with scalar part put each_row gate_powers gate_phase gate_row error_frame row_valid valid self_valid valid_for pivot_of combination weighted look collapse_row collapse measured chosen decoded error_at bad_operation measurements choice_takers good_error bad_error bad_choice read_bodies header_fits entry_fits bad_contents read_book body_of operations_of errors_of steps_from with_result errors_on_frame shift_row verdict_of frame_look frame_kind frame_errors frame_step frame_steps frame_leaves frame_run_from frame_run reset_rows error_row start_of table_fits bad_shot shot_row clean_among shifted_among tray_buffers_fit tray_by_answer tray_book
reset-shots = (refl, refl)

-- a tray that is refused leaves a buffer of so many sevens
abbrev Refuses : (tray t : List ℕ) (size number place : ℕ) → Type 0
Refuses tray t size number place =
    tray_book book tray t (sevens size) ≡ record { number = number; place = place; shifted = 0; out = sevens size }

-- p of the last shot's error is 3, which is not below d
abbrev bad : List ℕ
bad = set tray 16 3

-- 11 before 6, 6 before 8, 8 before 9; 6 names the shot; 9 where d or n isn't the book's too, or a row is wrong
pub refusals :
    Refuses (bad ++ (0 ∷ [])) t 15 11 0
    × Refuses bad [] 14 6 2
    × Refuses tray (set t 0 5) 14 8 0
    × Refuses tray (set t 0 5) 15 9 0
    × Refuses tray (set t 1 2) 15 9 0
    × Refuses tray (set t 2 2) 15 9 0
unfolding listed all first_not tab dot pairing part each_row row_valid valid self_valid valid_for measured decoded error_at bad_operation measurements choice_takers good_error bad_error bad_choice read_bodies header_fits entry_fits bad_contents read_book body_of operations_of start_of table_fits bad_shot tray_buffers_fit tray_by_answer tray_book
refusals = (refl, refl, refl, refl, refl, refl)
