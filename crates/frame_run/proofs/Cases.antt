-- A book and what its frame run returns: antt computes each.
-- Assumes nothing.
use mathlib.Core.Path.{◌≡◌, refl}
use mathlib.Core.List.{List, [], ◌∷◌}
use Prim.Native.Nat.{ℕ}
use Rattle.modular.specs.Dimension.{listed}
use Rattle.search.specs.Search.{all, first_not}
use Rattle.row.specs.Row.{tab, dot, pairing}
use Rattle.tableau.specs.Tableau.{part}
use Rattle.validity.specs.Validity.{row_valid, valid}
use Rattle.saved_tableau.specs.Saved.{self_valid, valid_for}
use Rattle.circuit.specs.Circuit.{measured}
use Rattle.book_entries.specs.Entry.{decoded}
use Rattle.book_body.specs.Body.{bad_operation, measurements, choice_takers, bad_error, bad_choice, read_bodies}
use Rattle.book.specs.Book.{header_fits, entry_fits, bad_contents, read_book, body_of}
use Rattle.book.specs.Decoded.{operations_of}
use Rattle.frame_run.specs.FrameBook.{Buffers, frame_buffers_fit, frame_by_answer, frame_book}

-- d 3, n 1; a measurement with the choice 1, and no error
abbrev book : List ℕ
book =
    81 ∷ 3 ∷ 1 ∷ 3 ∷ 1 ∷ 0 ∷ 22 ∷ 0 ∷ 4 ∷ 0 ∷ 2 ∷ 0 ∷ 26 ∷ 0 ∷ 0 ∷ 0 ∷ 3 ∷ 0 ∷ 26 ∷ 0 ∷ 1 ∷ 0
    ∷ 6 ∷ 0 ∷ 0 ∷ 0 ∷ 1 ∷ []

-- a tableau and a frame buffer
abbrev lent : List ℕ → List ℕ → Buffers
lent tableau frame = record { tableau = tableau; results = 7 ∷ 7 ∷ []; shifts = 7 ∷ 7 ∷ []; frame = frame }

-- a tableau that names d 3 and n 1 and is not valid, since its rows pair to 2
abbrev invalid : List ℕ
invalid = 3 ∷ 1 ∷ 2 ∷ 0 ∷ 0 ∷ 0 ∷ 1 ∷ 0 ∷ []

-- the zero tableau of a qudit of dimension 5: its rows would be valid for 3 too
abbrev of_five : List ℕ
of_five = 5 ∷ 1 ∷ 1 ∷ 0 ∷ 0 ∷ 0 ∷ 1 ∷ 0 ∷ []

-- 8 before 9, and 9 for a valid tableau whose d isn't the book's
refusals :
    (frame_book book (lent invalid (7 ∷ [])) ≡ record { number = 8; place = 0; verdict = 0; left = lent invalid (7 ∷ []) })
    × (frame_book book (lent invalid (7 ∷ 7 ∷ [])) ≡ record { number = 9; place = 0; verdict = 0; left = lent invalid (7 ∷ 7 ∷ []) })
    × (frame_book book (lent of_five (7 ∷ 7 ∷ [])) ≡ record { number = 9; place = 0; verdict = 0; left = lent of_five (7 ∷ 7 ∷ []) })
unfolding listed all first_not tab dot pairing part row_valid valid self_valid valid_for measured decoded bad_operation measurements choice_takers bad_error bad_choice read_bodies header_fits entry_fits bad_contents read_book body_of operations_of frame_buffers_fit frame_by_answer frame_book
refusals = (refl, refl, refl)
