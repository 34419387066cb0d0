-- Gates undone on a row, and books that must be mirrored or refused so: antt computes each.
-- Assumes nothing.
use mathlib.Core.Path.{◌≡◌, refl}
use mathlib.Core.List.{List, [], ◌∷◌, ◌++◌}
use Prim.Native.Nat.{ℕ}
use lib.ListN.{replicate}
use Rattle.modular.specs.Dimension.{listed, power_of, inverse}
use Rattle.search.specs.Search.{first_not}
use Rattle.row.specs.Row.{tab}
use Rattle.operation.specs.declared.Operation.{Operation}
use Rattle.operation.specs.declared.Operation.TheVariants.{Fourier, PhaseGate, Sum, Cz, Swap, Multiplier}
use Rattle.operation.specs.Gate.{gate_powers, gate_phase, gate_row}
use Rattle.book_entries.specs.Entry.{bytes_of, decoded, error_at}
use Rattle.book_body.specs.Body.{bad_operation, measurements, choice_takers, good_error, bad_error, bad_choice, read_bodies}
use Rattle.book.specs.Book.{header_fits, entry_fits, bad_contents, read_book, body_of}
use Rattle.book.specs.Decoded.{operations_of}
use Rattle.written_book.specs.Written.{head_of, book_of}
use Rattle.mirror_book.specs.Undoing.{undoing}
use Rattle.mirror_book.specs.Mirrored.{mirrored}
use Rattle.mirror_book.specs.MirrorBook.{bytes_of_all, mirror_by_answer, mirror_book}

-- a = (1,2), b = (3,4), phase 1, for d = 7 and n = 2
abbrev row : List ℕ
row = 1 ∷ 2 ∷ 3 ∷ 4 ∷ 1 ∷ []

abbrev Undone : Operation → Type 0
Undone op = gate_row 7 2 (undoing 7 op) (gate_row 7 2 op row) ≡ row

fourier-undone : Undone (Fourier 0 1) × Undone (Fourier 1 2) × Undone (Fourier 0 3)
unfolding gate_row gate_powers gate_phase
fourier-undone = (refl, refl, refl)

phase-gate-undone : Undone (PhaseGate 1 2)
unfolding gate_row gate_powers gate_phase
phase-gate-undone = refl

sum-undone : Undone (Sum 0 1 1)
unfolding gate_row gate_powers gate_phase
sum-undone = refl

cz-undone : Undone (Cz 1 0 2)
unfolding gate_row gate_powers gate_phase
cz-undone = refl

swap-undone : Undone (Swap 0 1)
unfolding gate_row gate_powers gate_phase
swap-undone = refl

multiplier-undone : Undone (Multiplier 1 3)
unfolding gate_row gate_powers gate_phase inverse power_of
multiplier-undone = refl

-- Fourier on 0, SUM from 0 to 1 six times, CZ of 1 and 0 three times, phase gate on 1 twice, swap of 1 and 0, multiplier by 3 on 0
abbrev gates : List ℕ
gates =
    0 ∷ 0 ∷ 0 ∷ 0
    ∷ 2 ∷ 0 ∷ 1 ∷ 6
    ∷ 3 ∷ 1 ∷ 0 ∷ 3
    ∷ 1 ∷ 1 ∷ 0 ∷ 2
    ∷ 4 ∷ 1 ∷ 0 ∷ 0
    ∷ 5 ∷ 0 ∷ 0 ∷ 3 ∷ []

-- before operation 2, on qudit 1: X Z²
abbrev errors : List ℕ
errors = 2 ∷ 0 ∷ 1 ∷ 1 ∷ 2 ∷ []

-- multiplier by 5, swap, phase gate five times, CZ four times, SUM once, Fourier three times; no errors and no choices
abbrev mirror : List ℕ
mirror =
    81 ∷ 7 ∷ 2 ∷ 3
    ∷ 1 ∷ 0 ∷ 22 ∷ 0 ∷ 24 ∷ 0
    ∷ 2 ∷ 0 ∷ 46 ∷ 0 ∷ 0 ∷ 0
    ∷ 3 ∷ 0 ∷ 46 ∷ 0 ∷ 0 ∷ 0
    ∷ 5 ∷ 0 ∷ 0 ∷ 5
    ∷ 4 ∷ 1 ∷ 0 ∷ 0
    ∷ 1 ∷ 1 ∷ 0 ∷ 5
    ∷ 3 ∷ 1 ∷ 0 ∷ 4
    ∷ 2 ∷ 0 ∷ 1 ∷ 0
    ∷ 0 ∷ 0 ∷ 0 ∷ 3 ∷ []

-- five qutrits: CZ of 4 and 2 twice, phase gate on 3, SUM from 1 to 0 twice, multiplier by 2 on 2
abbrev qutrit_gates : List ℕ
qutrit_gates =
    3 ∷ 4 ∷ 2 ∷ 2
    ∷ 1 ∷ 3 ∷ 0 ∷ 0
    ∷ 2 ∷ 1 ∷ 0 ∷ 2
    ∷ 5 ∷ 2 ∷ 0 ∷ 2 ∷ []

-- multiplier by 2, SUM once, phase gate twice, CZ once
abbrev qutrit_mirror : List ℕ
qutrit_mirror =
    81 ∷ 3 ∷ 5 ∷ 3
    ∷ 1 ∷ 0 ∷ 22 ∷ 0 ∷ 16 ∷ 0
    ∷ 2 ∷ 0 ∷ 38 ∷ 0 ∷ 0 ∷ 0
    ∷ 3 ∷ 0 ∷ 38 ∷ 0 ∷ 0 ∷ 0
    ∷ 5 ∷ 2 ∷ 0 ∷ 2
    ∷ 2 ∷ 1 ∷ 0 ∷ 0
    ∷ 1 ∷ 3 ∷ 0 ∷ 2
    ∷ 3 ∷ 4 ∷ 2 ∷ 0 ∷ []

-- a buffer of so many sevens
abbrev sevens : ℕ → List ℕ
sevens k = replicate k 7

-- the call refuses a buffer of so many sevens, and leaves it
abbrev Refuses : (d n : ℕ) (ops errors choices : List ℕ) (size number place : ℕ) → Type 0
Refuses d n ops errors choices size number place =
    mirror_book (book_of d n ops errors choices) (sevens size) ≡ record { number = number; place = place; out = sevens size }

-- written with two bytes to spare, and with none; not with one too few
pub mirror-written :
    (mirror_book (book_of 7 2 gates errors []) (sevens 48) ≡ record { number = 0; place = 46; out = mirror ++ (7 ∷ 7 ∷ []) })
    × (mirror_book (book_of 7 2 gates errors []) (sevens 46) ≡ record { number = 0; place = 46; out = mirror })
    × Refuses 7 2 gates errors [] 45 8 0
    × (mirror_book (book_of 3 5 qutrit_gates [] []) (sevens 38) ≡ record { number = 0; place = 38; out = qutrit_mirror })
unfolding listed power_of inverse first_not tab bytes_of decoded error_at measurements choice_takers bad_operation good_error bad_error bad_choice read_bodies header_fits entry_fits bad_contents read_book body_of operations_of head_of book_of mirrored bytes_of_all mirror_by_answer mirror_book
mirror-written = (refl, refl, refl, refl)

-- Fourier, then both qudits are measured; Fourier, then qudit 4 is
abbrev measuring : List ℕ
measuring = 0 ∷ 0 ∷ 0 ∷ 0 ∷ 6 ∷ 0 ∷ 0 ∷ 0 ∷ 6 ∷ 1 ∷ 0 ∷ 0 ∷ []

abbrev measured-last : List ℕ
measured-last = 0 ∷ 0 ∷ 0 ∷ 0 ∷ 6 ∷ 4 ∷ 0 ∷ 0 ∷ []

-- Fourier, then qudit 0 is reset
abbrev resetting : List ℕ
resetting = 0 ∷ 0 ∷ 0 ∷ 0 ∷ 7 ∷ 0 ∷ 0 ∷ 0 ∷ []

-- 12 with the operation index of the first measurement or reset, before 8; 6 and 7 before 12
pub measurement_refused :
    Refuses 7 2 measuring errors (0 ∷ 0 ∷ []) 34 12 1
    × Refuses 7 2 measuring errors (0 ∷ 0 ∷ []) 33 12 1
    × Refuses 7 2 measuring (4 ∷ 0 ∷ 0 ∷ 0 ∷ 0 ∷ []) (0 ∷ 0 ∷ []) 34 6 0
    × Refuses 7 2 measuring errors (0 ∷ []) 34 7 1
    × Refuses 3 5 measured-last [] (2 ∷ []) 30 12 1
    × Refuses 3 5 resetting [] (2 ∷ []) 30 12 1
unfolding listed first_not tab decoded error_at measurements choice_takers bad_operation good_error bad_error bad_choice read_bodies header_fits entry_fits bad_contents read_book body_of operations_of head_of book_of mirror_by_answer mirror_book
measurement_refused = (refl, refl, refl, refl, refl, refl)
