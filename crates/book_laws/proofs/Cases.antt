-- A book, its second book, and what both runs may be lent for it: antt computes each.
-- Assumes nothing.
use mathlib.Core.Path.{◌≡◌, refl}
use mathlib.Core.List.{List, [], ◌∷◌}
use Prim.Native.Nat.{ℕ}
use native.Mathlib.Omega.{arith}
use lib.ListN.{set}
use Rattle.modular.specs.Dimension.{listed}
use Rattle.search.specs.Search.{all, first_not}
use Rattle.row.specs.Row.{tab, dot, pairing}
use Rattle.tableau.specs.Tableau.{part}
use Rattle.operation.specs.Error.{error_frame}
use Rattle.book_entries.specs.Entry.{decoded, error_at}
use Rattle.book_body.specs.Body.{bad_operation, measurements, choice_takers, good_error, bad_error, bad_choice, read_bodies}
use Rattle.book.specs.Book.{header_fits, entry_fits, bad_contents, read_book, body_of}
use Rattle.book.specs.Decoded.{operations_of, errors_of}
use Rattle.validity.specs.Validity.{row_valid, valid}
use Rattle.saved_tableau.specs.Saved.{self_valid}
use Rattle.runs.specs.Frame.{errors_on_frame}
use Rattle.runs.specs.Raised.{carry_by, frame_before, carried, raise_by, choice_raises, raised}
use Rattle.frame_run.specs.FrameBook.{buffers_of}
use Rattle.book_laws.specs.Lent.{Lent}
use Rattle.book_laws.specs.Agreement.{raised_book}

-- d 3, n 1; two measurements with the choices 0 and 2, and X Z² between them
abbrev book : List ℕ
book =
    81 ∷ 3 ∷ 1 ∷ 3 ∷ 1 ∷ 0 ∷ 22 ∷ 0 ∷ 8 ∷ 0 ∷ 2 ∷ 0 ∷ 30 ∷ 0 ∷ 5 ∷ 0 ∷ 3 ∷ 0 ∷ 35 ∷ 0 ∷ 2 ∷ 0
    ∷ 6 ∷ 0 ∷ 0 ∷ 0 ∷ 6 ∷ 0 ∷ 0 ∷ 0 ∷ 1 ∷ 0 ∷ 0 ∷ 1 ∷ 2 ∷ 0 ∷ 2 ∷ []

-- the second choice, byte 36, becomes 2 + 1 modulo 3, and no other byte differs
second : raised_book 3 1 book ≡ set book 36 0
unfolding raised_book raised choice_raises raise_by carried carry_by frame_before errors_on_frame error_frame listed first_not tab decoded error_at bad_operation measurements choice_takers good_error bad_error bad_choice read_bodies header_fits entry_fits bad_contents read_book body_of operations_of errors_of
second = refl

-- The premises of demand 3 can be met: the zero tableau of one qutrit, a copy of it, and room for two results.
abbrev zero-tableau : List ℕ
zero-tableau = 3 ∷ 1 ∷ 1 ∷ 0 ∷ 0 ∷ 0 ∷ 1 ∷ 0 ∷ []

abbrev four : List ℕ
four = 0 ∷ 0 ∷ 0 ∷ 0 ∷ []

lendable : Lent 3 1 2 zero-tableau four (buffers_of zero-tableau four four four)
unfolding listed self_valid valid row_valid all pairing dot part
lendable =
    record {
      start-room = omega arith;
      start-valid = refl;
      start-dimension = refl;
      start-qudits = refl;
      copy_room = omega arith;
      copied = λ i l. refl;
      direct-results = omega arith;
      frame-results = omega arith;
      shifts-room = omega arith;
      frame-room = omega arith;
    }
