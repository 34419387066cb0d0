-- The frame run is the clean run, the carried frame and then the shifts.
-- Assumes nothing.
use mathlib.Core.Path.{◌≡◌}
use mathlib.Core.List.{List, [], ◌++◌}
use Prim.Native.Nat.{ℕ, ◌-◌, ◌*◌, ◌<◌, ◌≤◌}
use lib.ListN.{length, drop}
use borrow.Rule.Slice.PartMut.{put_mid}
use Rattle.row.specs.Row.{tab}
use Rattle.operation.specs.declared.Operation.{Operation}
use Rattle.operation.specs.declared.WeylError.{WeylError}
use Rattle.saved_tableau_laws.proofs.Rows.{rows-put}
use Rattle.circuit.specs.Circuit.{measured}
use Rattle.runs.specs.Direct.{State, direct_run}
use Rattle.runs.specs.Frame.{FrameEnd, no_frame, shift_at, shift_rows, verdict_of, frame_leaves, frame_run}
use Rattle.runs.specs.Raised.{final_frame, result_shifts}
use Rattle.runs.specs.Carry.{with_shifts}
use Rattle.run_laws.proofs.Clean.{frame-is-clean}
use Rattle.frame_run.specs.declared.FrameAnswer.{FrameAnswer}
use Rattle.frame_run.specs.FrameBook.{buffers_of, end_of, frame_left, frame_ended}

module _ (d n : ℕ) (ops : List Operation) (errors : List WeylError) (choices : List ℕ) where
  module _ (st : State) (shifts frame : List ℕ) where
    pub run_ends : 0 < d → 2 * measured ops (length ops) ≤ length st.results
        → {verdict : ℕ} {t results F results' carried t' shifts' frame' : List ℕ}
        → record { rows = t; results = results } ≡ direct_run d n ops [] choices st
        → F ≡ no_frame n
        → carried ≡ final_frame d n ops errors F
        → results' ≡ with_shifts d (result_shifts d n ops errors F) (measured ops (length ops)) results
        → t' ≡ shift_rows d n carried t
        → shifts' ≡ tab (shift_at d n carried t) (2 * n) ++ drop (2 * n) shifts
        → frame' ≡ carried ++ drop (2 * n) frame
        → verdict ≡ verdict_of d n carried t
        → ◌≡◌ {A = FrameEnd} (record { rows = t'; results = results'; shifts = shifts'; frame = frame'; verdict = verdict })
        (frame_run d n ops errors choices st shifts frame)
    unfolding frame_run frame_leaves
    run_ends low room clean none f r a b c v =
        rw (frame-is-clean d n ops errors choices (no_frame n) st shifts frame low room, ← clean, ← none, ← f, a, b, c, v, r)

-- the rows come back behind the same two bytes
pub tableau-ends : {answer : FrameAnswer} {measurements : ℕ} (t : List ℕ) {rows results shifts frame : List ℕ} {end : FrameEnd}
    → end_of answer rows results shifts frame ≡ end
    → answer.number ≡ 0
    → answer.place ≡ measurements
    → frame_left answer (buffers_of (put_mid 2 (length t - 2) t rows) results shifts frame) ≡ frame_ended measurements t end
tableau-ends t {rows} e z m = rw (← e, z, m, rows-put t rows)
