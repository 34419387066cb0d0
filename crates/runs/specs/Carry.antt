-- The frame run is the clean run, the direct run without errors, and then the frame carried over the circuit.
use Rattle.std.specs.Prelude.{cond, List, ℕ, ◌+◌, ◌*◌, ◌/◌, ◌%◌, eqb, get_or}
use Rattle.row.specs.Fill.{filled}
use Rattle.operation.specs.declared.Operation.{Operation}
use Rattle.operation.specs.declared.WeylError.{WeylError}
use Rattle.circuit.specs.Circuit.{measurement_count}
use Rattle.runs.specs.Direct.{State}
use Rattle.runs.specs.Frame.{FrameState}
use Rattle.runs.specs.Raised.{final_frame, result_shifts}

-- The reported result is the clean one plus the frame's X power on q: byte b of the results, where outcome j has gained shift j. A
-- mark stays.
abbrev pub shifted_byte_at : ℕ → List ℕ → List ℕ → ℕ → ℕ
shifted_byte_at d clean shifts b = cond (eqb (b % 2) 0) ((get_or clean b 0 + get_or shifts (b / 2) 0) % d) (get_or clean b 0)

-- the results of `count` measurements with their shifts; bytes past them are kept
unfoldable pub with_shifts : ℕ → List ℕ → ℕ → List ℕ → List ℕ
with_shifts d shifts count clean = filled (shifted_byte_at d clean shifts) clean (2 * count)

-- the results of the clean run, each with the shift that the frame F, carried over the circuit, gives it
abbrev pub reported : ℕ → ℕ → List Operation → List WeylError → List ℕ → List ℕ → List ℕ
reported d n ops errors F clean = with_shifts d (result_shifts d n ops errors F) (measurement_count ops) clean

-- what the clean run has left, and the frame F carried to the end
abbrev pub clean_carried : ℕ → ℕ → List Operation → List WeylError → List ℕ → State → FrameState
clean_carried d n ops errors F clean =
    record {
      rows = clean.rows;
      results = reported d n ops errors F clean.results;
      frame = final_frame d n ops errors F;
      shifts = result_shifts d n ops errors F;
    }
