-- A book with its errors taken out. The statement is proved in proofs/.
use Rattle.std.specs.Prelude.{◌≡◌, List, [], ℕ}
use Rattle.book_body.specs.Body.{accepted}
use Rattle.book.specs.Book.{read_book, body_of}
use Rattle.written_book.specs.Written.{book_of}

-- The same d, n, operations and choices, and no errors.
abbrev pub errorless : ℕ → ℕ → List ℕ → List ℕ
errorless d n s = book_of d n (body_of s 1) [] (body_of s 3)

-- It is accepted with 0 errors, and has the same operations and choices.
pub record ErrorsRemoved (d n operations choices : ℕ) (s : List ℕ) : Type 0 where
  pub accepts : read_book (errorless d n s) ≡ accepted d n operations 0 choices
  pub same-operations : body_of (errorless d n s) 1 ≡ body_of s 1
  pub no-errors : body_of (errorless d n s) 2 ≡ []
  pub same-choices : body_of (errorless d n s) 3 ≡ body_of s 3

abbrev pub ErrorlessAccepted : Type 0
ErrorlessAccepted = (s : List ℕ) (d n operations errors choices : ℕ) → read_book s ≡ accepted d n operations errors choices
    → ErrorsRemoved d n operations choices s
