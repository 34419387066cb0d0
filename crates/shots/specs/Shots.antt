-- What a tray of shots fills and returns: exactly as separate frame runs would.
use Rattle.std.specs.Prelude.{Bool, cond, ◌&&◌, List, [], ◌∷◌, ℕ, zero, suc, ◌+◌, ◌*◌, eqb, leb, length, replicate, Option, Some, None}
use Rattle.search.specs.Search.{unless}
use Rattle.tableau.specs.Tableau.{each_row}
use Rattle.saved_tableau.specs.Saved.{rows_in, tableau_bytes, valid_for}
use Rattle.operation.specs.declared.Operation.{Operation}
use Rattle.operation.specs.declared.WeylError.{WeylError}
use Rattle.circuit.specs.Circuit.{measured}
use Rattle.book_body.specs.Body.{ReaderAnswer, refused, accepted}
use Rattle.book.specs.Book.{read_book, body_of}
use Rattle.book.specs.Decoded.{operations_of, errors_of, measurements_in}
use Rattle.runs.specs.Frame.{FrameEnd, frame_run}
use Rattle.tray.specs.Tray.{shots_in, shot_body, table_fits, bad_shot}

-- Per shot one verdict byte, and then 2 bytes per measurement.
abbrev pub shot_bytes : FrameEnd → List ℕ
shot_bytes end = end.verdict ∷ end.results

-- The circuit's choices serve every shot, and the starting tableau's rows are used anew for each.
module _ (d n : ℕ) (ops : List Operation) (choices start : List ℕ) where
  abbrev pub shot_run : List WeylError → FrameEnd
  shot_run errors =
      frame_run d n ops errors choices (record { rows = start; results = replicate (2 * measured ops (length ops)) 0 }) [] []

  module _ (tray : List ℕ) where
    abbrev pub run_of : ℕ → FrameEnd
    run_of i = shot_run (errors_of (shot_body tray i))

    -- what shot i's row becomes, whatever it held
    unfoldable pub shot_row : ℕ → List ℕ → List ℕ
    shot_row i v = shot_bytes (run_of i)

    -- the first k shots, in the lent buffer
    abbrev pub filled_by : List ℕ → ℕ → List ℕ
    filled_by out k = each_row shot_row (1 + 2 * measured ops (length ops)) out k

    -- how many of the first k were clean, and how many shifted
    unfoldable pub clean_among : ℕ → ℕ
    clean_among zero = 0
    clean_among (suc k) = clean_among k + cond (eqb (run_of k).verdict 0) 1 0

    unfoldable pub shifted_among : ℕ → ℕ
    shifted_among zero = 0
    shifted_among (suc k) = shifted_among k + cond (eqb (run_of k).verdict 0) 0 1

-- the three numbers, and what is left in the lent buffer; the tableau keeps its bytes
pub record TrayLeft : Type 0 where
  pub number : ℕ
  pub place : ℕ
  pub shifted : ℕ
  pub out : List ℕ

-- A refusal's third number is 0, and nothing is written.
abbrev pub tray_refused : ℕ → ℕ → List ℕ → TrayLeft
tray_refused number place out = record { number = number; place = place; shifted = 0; out = out }

-- 8: tableau or output is shorter than it must be. Needed: the tableau of the book's n; output, per shot, 1 and 2 per measurement.
unfoldable pub tray_buffers_fit : ℕ → ℕ → ℕ → List ℕ → List ℕ → Bool
tray_buffers_fit n measurements shots t out = leb (tableau_bytes n) (length t) && leb (shots * (1 + 2 * measurements)) (length out)

-- Success returns 0, how many were clean and how many shifted.
abbrev pub tray_ended : ℕ → ℕ → List Operation → List ℕ → List ℕ → List ℕ → List ℕ → TrayLeft
tray_ended d n ops choices tray start out =
    record {
      number = 0;
      place = clean_among d n ops choices start tray (shots_in tray);
      shifted = shifted_among d n ops choices start tray (shots_in tray);
      out = filled_by d n ops choices start tray out (shots_in tray);
    }

-- 6 with the number of the first shot that has a bad entry
abbrev pub refuse6 : Option ℕ → List ℕ → TrayLeft → TrayLeft
refuse6 (Some shot) out rest = tray_refused 6 shot out
refuse6 None out rest = rest

-- 1 to 7 of the book, its own errors checked but not used; then 11, the tray's 6, 8 and 9: a tableau that is not valid, or whose d or n
-- isn't the book's
unfoldable pub tray_by_answer : List ℕ → List ℕ → List ℕ → List ℕ → ReaderAnswer → TrayLeft
tray_by_answer s tray t out (refused number place) = tray_refused number place out
tray_by_answer s tray t out (accepted d n operations errors choices) =
    unless (table_fits tray) (tray_refused 11 0 out)
    (refuse6 (bad_shot d n operations tray) out
    (unless (tray_buffers_fit n (measurements_in s d n) (shots_in tray) t out) (tray_refused 8 0 out)
    (unless (valid_for d n t) (tray_refused 9 0 out)
    (tray_ended d n (operations_of d n (body_of s 1)) (body_of s 3) tray (rows_in t) out))))

unfoldable pub tray_book : List ℕ → List ℕ → List ℕ → List ℕ → TrayLeft
tray_book s tray t out = tray_by_answer s tray t out (read_book s)
