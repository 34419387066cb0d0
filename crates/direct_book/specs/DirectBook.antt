-- The direct run of a book: what is returned, and what is left in the buffers.
use Rattle.std.specs.Prelude.{Bool, ◌&&◌, List, ℕ, ◌*◌, leb, length}
use Rattle.search.specs.Search.{unless}
use Rattle.saved_tableau.specs.Saved.{rows_in, with_rows, tableau_bytes, valid_for}
use Rattle.book_body.specs.Body.{ReaderAnswer, refused, accepted}
use Rattle.book.specs.Book.{read_book}
use Rattle.book.specs.Decoded.{ops_in, errors_in, choices_in, measurements_in}
use Rattle.runs.specs.Direct.{State, state_of, direct_run}
use Rattle.halts.specs.Halt.{finished}
use Rattle.direct_book.specs.declared.DirectAnswer.{DirectAnswer}

pub record DirectLeft : Type 0 where
  pub number : ℕ
  pub place : ℕ
  pub next : ℕ
  pub tableau : List ℕ
  pub results : List ℕ

-- an answer, with what the two lent buffers hold when it is given
abbrev pub direct_left : DirectAnswer → (tableau results : List ℕ) → DirectLeft
direct_left answer tableau results =
    record { number = answer.number; place = answer.place; next = answer.next; tableau = tableau; results = results }

-- A refusal has 0 for the number of the next operation, and leaves every buffer unchanged.
abbrev pub direct_refused : (number place : ℕ) (t results : List ℕ) → DirectLeft
direct_refused number place t results = record { number = number; place = place; next = 0; tableau = t; results = results }

-- rows behind the first two bytes of t, which stay as they are
abbrev pub behind : List ℕ → State → State
behind t st = state_of (with_rows t st.rows) st.results

-- Success returns 0 and, beside the whole book's number of measurements, the number of the next operation.
abbrev pub direct_reached : (measurements next : ℕ) → List ℕ → State → DirectLeft
direct_reached measurements next t st =
    record { number = 0; place = measurements; next = next; tableau = (behind t st).rows; results = (behind t st).results }

-- 8: a buffer is shorter than it must be. Needed: the tableau of the book's n; results 2 per measurement.
abbrev pub direct_buffers_fit : ℕ → ℕ → List ℕ → List ℕ → Bool
direct_buffers_fit n measurements t results = leb (tableau_bytes n) (length t) && leb (2 * measurements) (length results)

-- 1 to 7, as the reader has answered, then 8, then 9: a tableau that is not valid, or whose d or n isn't the book's
unfoldable pub direct_tested : (s t results : List ℕ) → ReaderAnswer → ReaderAnswer
direct_tested s t results (refused number place) = refused number place
direct_tested s t results (accepted d n operations errors choices) =
    unless (direct_buffers_fit n (measurements_in s d n) t results) (refused 8 0)
    (unless (valid_for d n t) (refused 9 0) (accepted d n operations errors choices))

-- what is left after these tests: by a refusal, or for the book's d and n
unfoldable pub direct_by : (t results : List ℕ) (left : (d n : ℕ) → DirectLeft) → ReaderAnswer → DirectLeft
direct_by t results left (refused number place) = direct_refused number place t results
direct_by t results left (accepted d n operations errors choices) = left d n

-- What the run of a book ends with, from the rows of t. A finished run returns the number of operations plus one.
abbrev pub direct_ended : (s t results : List ℕ) (d n : ℕ) → DirectLeft
direct_ended s t results d n =
    direct_reached (measurements_in s d n) (finished (length (ops_in s d n))) t
    (direct_run d n (ops_in s d n) (errors_in s) (choices_in s) (state_of (rows_in t) results))

unfoldable pub direct_book : (s t results : List ℕ) → DirectLeft
direct_book s t results = direct_by t results (direct_ended s t results) (direct_tested s t results (read_book s))
