-- A book that may run on the lent buffers.
use Rattle.std.specs.Prelude.{◌≡◌, true, List, ℕ, ◌*◌, ◌≤◌, length}
use Rattle.saved_tableau.specs.Saved.{tableau_bytes, valid_for}
use Rattle.book_body.specs.Body.{accepted}
use Rattle.book.specs.Book.{read_book}
use Rattle.book.specs.Decoded.{measurements_in}

-- none of 1 to 9 refuses a direct run of this book, whose numbers these are
pub record Passes (s t results : List ℕ) (d n operations errors choices : ℕ) : Type 0 where
  pub reads : read_book s ≡ accepted d n operations errors choices
  pub room : tableau_bytes n ≤ length t
  pub results-room : 2 * measurements_in s d n ≤ length results
  pub for-book : valid_for d n t ≡ true
