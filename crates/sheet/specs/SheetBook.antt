-- The sheet of a book: what the call returns, and what it leaves in the lent buffer.
use Rattle.std.specs.Prelude.{List, ℕ, leb, length}
use Rattle.search.specs.Search.{unless}
use Rattle.circuit.specs.Circuit.{measurement_count}
use Rattle.book_body.specs.Body.{ReaderAnswer, refused, accepted}
use Rattle.book.specs.Book.{read_book}
use Rattle.book.specs.Decoded.{ops_in, errors_in}
use Rattle.sheet.specs.Weights.{sheet_bytes, sheet_in}

-- the two numbers, and what is left in the lent buffer
pub record SheetLeft : Type 0 where
  pub number : ℕ
  pub place : ℕ
  pub sheet : List ℕ

-- 1 to 7, then 8: the buffer is shorter than the sheet. Success returns 0 and the number of measurements.
unfoldable pub sheet_by_answer : (s sheet : List ℕ) → ReaderAnswer → SheetLeft
sheet_by_answer s sheet (refused number place) = record { number = number; place = place; sheet = sheet }
sheet_by_answer s sheet (accepted d n operations errors choices) =
    unless (leb (sheet_bytes (ops_in s d n) (errors_in s)) (length sheet)) (record { number = 8; place = 0; sheet = sheet })
    (record { number = 0; place = measurement_count (ops_in s d n); sheet = sheet_in d n (ops_in s d n) (errors_in s) sheet })

unfoldable pub sheet_book : (s sheet : List ℕ) → SheetLeft
sheet_book s sheet = sheet_by_answer s sheet (read_book s)
