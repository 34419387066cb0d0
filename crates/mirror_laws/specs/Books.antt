-- The mirror of a whole book. The statements are proved in proofs/.
use Rattle.std.specs.Prelude.{◌≡◌, true, List, ℕ, ◌≤◌, length, take, drop, None}
use Rattle.saved_tableau.specs.Saved.{dimension_in, qudits_in, rows_in, with_rows, tableau_bytes, self_valid}
use Rattle.book_body.specs.Body.{accepted}
use Rattle.book.specs.Book.{read_book}
use Rattle.book.specs.Decoded.{ops_in, errors_in}
use Rattle.written_book.specs.Writer.{WriteLeft}
use Rattle.written_book.specs.Errorless.{errorless}
use Rattle.runs.specs.Frame.{no_frame, shift_rows}
use Rattle.runs.specs.Raised.{final_frame}
use Rattle.direct_book.specs.DirectBook.{DirectLeft, direct_book}
use Rattle.mirror_book.specs.Mirrored.{mirrored}
use Rattle.mirror_book.specs.MirrorBook.{mirror_of, mirror_bytes, first_measurement, mirror_book}

-- The reader accepts the mirror of a book of gates alone, with the same d, n and number of operations, no errors and no choices,
-- and reads the mirrored operations.
pub record IsMirror (d n operations : ℕ) (s mirror : List ℕ) : Type 0 where
  pub accepts : read_book mirror ≡ accepted d n operations 0 0
  pub reads : ops_in mirror d n ≡ mirrored d (ops_in s d n)
  pub size : length mirror ≡ mirror_bytes operations

abbrev pub MirrorAccepted : Type 0
MirrorAccepted = (s : List ℕ) (d n operations errors choices : ℕ) → read_book s ≡ accepted d n operations errors choices
    → first_measurement (ops_in s d n) ≡ None
    → IsMirror d n operations s (mirror_of d n s)

-- The mirror of the mirror is the book with its errors taken out.
abbrev pub MirrorTwice : Type 0
MirrorTwice = (s : List ℕ) (d n operations errors choices : ℕ) → read_book s ≡ accepted d n operations errors choices
    → first_measurement (ops_in s d n) ≡ None
    → mirror_of d n (mirror_of d n s) ≡ errorless d n s

-- A call that returns 0 was handed a book of gates alone. It returns how many bytes it wrote, they are the mirror book, and no
-- byte past them changed.
pub record MirrorFilled (d n operations : ℕ) (s out : List ℕ) (left : WriteLeft) : Type 0 where
  pub gates : first_measurement (ops_in s d n) ≡ None
  pub count : left.place ≡ mirror_bytes operations
  pub book : take left.place left.out ≡ mirror_of d n s
  pub kept : drop left.place left.out ≡ drop left.place out

abbrev pub FillsMirror : Type 0
FillsMirror = (s out : List ℕ) (d n operations errors choices : ℕ) → read_book s ≡ accepted d n operations errors choices
    → (mirror_book s out).number ≡ 0
    → MirrorFilled d n operations s out (mirror_book s out)

-- a valid tableau whose two bytes are d and n, in a buffer long enough
pub record Start (d n : ℕ) (t : List ℕ) : Type 0 where
  pub room : tableau_bytes n ≤ length t
  pub valid : self_valid t ≡ true
  pub dimension : dimension_in t ≡ d
  pub qudits : qudits_in t ≡ n

-- The direct run of a book and then of its mirror both end without a refusal, and the second leaves `tableau`.
pub record Ends (first second : DirectLeft) (tableau : List ℕ) : Type 0 where
  pub first_ends : first.number ≡ 0
  pub second-ends : second.number ≡ 0
  pub leaves : second.tableau ≡ tableau

-- Without errors and measurements: each byte of the tableau is back, those past the needed ones too.
abbrev pub MirrorReturns : Type 0
MirrorReturns = (s : List ℕ) (d n operations choices : ℕ) → read_book s ≡ accepted d n operations 0 choices
    → first_measurement (ops_in s d n) ≡ None
    → (t results results' : List ℕ) → Start d n t
    → Ends (direct_book s t results) (direct_book (mirror_of d n s) (direct_book s t results).tableau results') t

-- the frame F carried through a book, its errors included
abbrev pub carried_through : (d n : ℕ) (s F : List ℕ) → List ℕ
carried_through d n s F = final_frame d n (ops_in s d n) (errors_in s) F

-- With errors: the tableau differs from the start by one frame, which shifts each row's phase by its pairing with the row, and this
-- frame is the errors carried through both books.
abbrev pub MirrorCarries : Type 0
MirrorCarries = (s : List ℕ) (d n operations errors choices : ℕ) → read_book s ≡ accepted d n operations errors choices
    → first_measurement (ops_in s d n) ≡ None
    → (t results results' : List ℕ) → Start d n t
    → Ends (direct_book s t results) (direct_book (mirror_of d n s) (direct_book s t results).tableau results')
    (with_rows t (shift_rows d n (carried_through d n (mirror_of d n s) (carried_through d n s (no_frame n))) (rows_in t)))
