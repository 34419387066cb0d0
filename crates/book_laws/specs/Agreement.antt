-- Demand 3: a Weyl error, wherever it strikes, may be carried to the end. One claim about the whole book, with every list of
-- operations and errors that it may hold. The statements are proved in proofs/.
use Rattle.std.specs.Prelude.{◌≡◌, List, ◌++◌, ℕ, ◌*◌, ◌<◌, length, get_or, take}
use Rattle.saved_tableau.specs.Saved.{tableau_bytes}
use Rattle.book_body.specs.Body.{accepted}
use Rattle.book.specs.Book.{choices_entry, offset_of, read_book, body_of}
use Rattle.book.specs.Decoded.{ops_in, errors_in, choices_in, measurements_in}
use Rattle.runs.specs.Frame.{no_frame}
use Rattle.runs.specs.Raised.{raised}
use Rattle.direct_book.specs.DirectBook.{DirectLeft, direct_book}
use Rattle.frame_run.specs.FrameBook.{Buffers, FrameLeft, frame_book}
use Rattle.book_laws.specs.Lent.{Lent}

-- The second book: the choice of each measurement, and of each reset, is raised, modulo d, by the X power which the frame of the first
-- book's errors has on that qudit just before that operation. The choices are the last body; no byte before them differs.
unfoldable pub raised_book : ℕ → ℕ → List ℕ → List ℕ
raised_book d n s = take (offset_of s choices_entry) s ++ raised d n (ops_in s d n) (errors_in s) (no_frame n) (choices_in s)

-- It is accepted with the same numbers, has the same operations and errors, and its choices are the raised ones.
pub record SecondBook (d n operations errors choices : ℕ) (s : List ℕ) : Type 0 where
  pub accepts : read_book (raised_book d n s) ≡ accepted d n operations errors choices
  pub same-operations : body_of (raised_book d n s) 1 ≡ body_of s 1
  pub same-errors : body_of (raised_book d n s) 2 ≡ body_of s 2
  pub raised-choices : choices_in (raised_book d n s) ≡ raised d n (ops_in s d n) (errors_in s) (no_frame n) (choices_in s)
  pub same_length : length (raised_book d n s) ≡ length s
  pub same_start : take (offset_of s choices_entry) (raised_book d n s) ≡ take (offset_of s choices_entry) s

abbrev pub SecondAccepted : Type 0
SecondAccepted = (s : List ℕ) (d n operations errors choices : ℕ) → read_book s ≡ accepted d n operations errors choices
    → SecondBook d n operations errors choices s

-- Both runs end without a refusal and are alike in the number of measurements, every result, every mark free or certain, and
-- every byte of the final tableau, phases included, both leading bytes included.
pub record Alike (n measurements : ℕ) (direct : DirectLeft) (framed : FrameLeft) : Type 0 where
  pub direct-ends : direct.number ≡ 0
  pub frame-ends : framed.number ≡ 0
  pub direct-count : direct.place ≡ measurements
  pub frame-count : framed.place ≡ measurements
  pub results : (i : ℕ) → i < 2 * measurements → get_or direct.results i 0 ≡ get_or framed.left.results i 0
  pub tableau : (i : ℕ) → i < tableau_bytes n → get_or direct.tableau i 0 ≡ get_or framed.left.tableau i 0

-- For every accepted book, every valid start tableau whose two bytes are the book's, and buffers long enough: a direct run of the
-- second book and a frame run of the first, each on its own copy of that tableau.
abbrev pub Demand3 : Type 0
Demand3 = (s : List ℕ) (d n operations errors choices : ℕ) → read_book s ≡ accepted d n operations errors choices
    → (t results : List ℕ) (lent : Buffers) → Lent d n (measurements_in s d n) t results lent
    → Alike n (measurements_in s d n) (direct_book (raised_book d n s) t results) (frame_book s lent)
