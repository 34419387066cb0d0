-- The frame run of a book: what is returned, and what is left in the buffers.
use Rattle.std.specs.Prelude.{Bool, ◌&&◌, List, ℕ, ◌*◌, ◌≤◌, leb, length, Result, Ok, Err}
use Rattle.answer.specs.declared.Refusal.{Refusal}
use Rattle.answer.specs.Refusal.{number_of, place_of}
use Rattle.search.specs.Search.{unless}
use Rattle.saved_tableau.specs.Saved.{rows_in, with_rows, tableau_bytes, valid_for}
use Rattle.book_body.specs.Body.{ReaderAnswer, refused, accepted}
use Rattle.circuit.specs.Circuit.{measurement_count}
use Rattle.book.specs.Book.{read_book, body_of}
use Rattle.book.specs.Decoded.{operations_of, errors_of, measurements_in}
use Rattle.runs.specs.Direct.{state_of}
use Rattle.runs.specs.Frame.{FrameEnd, frame_run}
use Rattle.frame_run.specs.declared.FrameAnswer.{FrameAnswer}

-- the four lent buffers
pub record Buffers : Type 0 where
  pub tableau : List ℕ
  pub results : List ℕ
  pub shifts : List ℕ
  pub frame : List ℕ

abbrev pub buffers_of : (tableau results shifts frame : List ℕ) → Buffers
buffers_of tableau results shifts frame = record { tableau = tableau; results = results; shifts = shifts; frame = frame }

pub record FrameLeft : Type 0 where
  pub number : ℕ
  pub place : ℕ
  pub verdict : ℕ
  pub left : Buffers

-- what a run on rows leaves in its buffers, with its answer's verdict
abbrev pub end_of : FrameAnswer → (rows results shifts frame : List ℕ) → FrameEnd
end_of answer rows results shifts frame =
    record { rows = rows; results = results; shifts = shifts; frame = frame; verdict = answer.verdict }

-- A refusal's third number is 0.
abbrev pub refusal : Refusal → FrameAnswer
refusal r = record { number = number_of r; place = place_of r; verdict = 0 }

-- the answer of a run that may refuse
abbrev pub answered : Result FrameAnswer Refusal → FrameAnswer
answered (Ok answer) = answer
answered (Err r) = refusal r

-- an answer, with what the lent buffers hold when it is given
abbrev pub frame_left : FrameAnswer → Buffers → FrameLeft
frame_left answer lent = record { number = answer.number; place = answer.place; verdict = answer.verdict; left = lent }

-- Needed: the tableau of the book's n; results 2 per measurement; the frame run also 2n for shifts and 2n for the frame.
unfoldable pub frame_buffers_fit : ℕ → ℕ → Buffers → Bool
frame_buffers_fit n measurements lent =
    leb (tableau_bytes n) (length lent.tableau) && (leb (2 * measurements) (length lent.results)
    && (leb (2 * n) (length lent.shifts) && leb (2 * n) (length lent.frame)))

-- the same as facts, of the buffers beside the tableau
pub record Room (n measurements : ℕ) (results shifts frame : List ℕ) : Type 0 where
  pub results-room : 2 * measurements ≤ length results
  pub shifts-room : 2 * n ≤ length shifts
  pub frame-room : 2 * n ≤ length frame

-- Success returns 0, the number of measurements and, as a third number, the verdict: 0 clean, 1 shifted. The tableau's first two bytes
-- stay as they are.
abbrev pub frame_ended : ℕ → List ℕ → FrameEnd → FrameLeft
frame_ended measurements t end =
    record {
      number = 0;
      place = measurements;
      verdict = end.verdict;
      left = record { tableau = with_rows t end.rows; results = end.results; shifts = end.shifts; frame = end.frame };
    }

-- A refusal has the verdict 0 and leaves every buffer unchanged.
abbrev pub frame_refused : ℕ → ℕ → Buffers → FrameLeft
frame_refused number place lent = record { number = number; place = place; verdict = 0; left = lent }

-- what a run of three bodies ends with, from the tableau's rows
abbrev pub frame_bodies : ℕ → ℕ → List ℕ → List ℕ → List ℕ → Buffers → FrameLeft
frame_bodies d n ops errors choices lent =
    frame_ended (measurement_count (operations_of d n ops)) lent.tableau
    (frame_run d n (operations_of d n ops) (errors_of errors) choices (state_of (rows_in lent.tableau) lent.results) lent.shifts
    lent.frame)

-- 1 to 7, then 8, then 9: a tableau that is not valid, or whose d or n isn't the book's
unfoldable pub frame_by_answer : List ℕ → Buffers → ReaderAnswer → FrameLeft
frame_by_answer s lent (refused number place) = frame_refused number place lent
frame_by_answer s lent (accepted d n operations errors choices) =
    unless (frame_buffers_fit n (measurements_in s d n) lent) (frame_refused 8 0 lent)
    (unless (valid_for d n lent.tableau) (frame_refused 9 0 lent)
    (frame_bodies d n (body_of s 1) (body_of s 2) (body_of s 3) lent))

unfoldable pub frame_book : List ℕ → Buffers → FrameLeft
frame_book s lent = frame_by_answer s lent (read_book s)
