-- What the verdict says of a book. The statements are proved in proofs/.
use Rattle.std.specs.Prelude.{◌≡◌, ◌↔◌, List, ℕ}
use Rattle.measurement_laws.specs.Stabilizers.{SameSet}
use Rattle.saved_tableau.specs.Saved.{rows_in}
use Rattle.book_body.specs.Body.{accepted}
use Rattle.book.specs.Book.{read_book}
use Rattle.book.specs.Decoded.{measurements_in}
use Rattle.written_book.specs.Errorless.{errorless}
use Rattle.direct_book.specs.DirectBook.{DirectLeft, direct_book}
use Rattle.frame_run.specs.FrameBook.{Buffers, FrameLeft, frame_book}
use Rattle.book_laws.specs.Lent.{Lent}
use Rattle.book_laws.specs.Agreement.{Alike}

-- Both runs end without a refusal, and the verdict is clean exactly if they end with the same stabilizer set.
pub record Compared (d n : ℕ) (clean : DirectLeft) (framed : FrameLeft) : Type 0 where
  pub clean-ends : clean.number ≡ 0
  pub frame-ends : framed.number ≡ 0
  pub exactly : (framed.verdict ≡ 0) ↔ SameSet d n (rows_in framed.left.tableau) (rows_in clean.tableau)

-- For every accepted book, every valid start tableau whose two bytes are the book's, and buffers long enough: the frame run, and a
-- direct run of the same book, choices and start tableau with its errors taken out, each on its own copy of that tableau.
abbrev pub CleanExactly : Type 0
CleanExactly = (s : List ℕ) (d n operations errors choices : ℕ) → read_book s ≡ accepted d n operations errors choices
    → (t results : List ℕ) (lent : Buffers) → Lent d n (measurements_in s d n) t results lent
    → Compared d n (direct_book (errorless d n s) t results) (frame_book s lent)

-- Without errors both runs are alike and the verdict is clean: so the run without errors may be of either kind.
abbrev pub WithoutErrors : Type 0
WithoutErrors = (s : List ℕ) (d n operations choices : ℕ) → read_book s ≡ accepted d n operations 0 choices
    → (t results : List ℕ) (lent : Buffers) → Lent d n (measurements_in s d n) t results lent
    → Alike n (measurements_in s d n) (direct_book s t results) (frame_book s lent) × ((frame_book s lent).verdict ≡ 0)
