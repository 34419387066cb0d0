-- One clean run serves every shot: a shot is the clean run with its carried frame added.
use Rattle.std.specs.Prelude.{◌≡◌, List, [], ◌∷◌, ℕ, ◌*◌, ◌<◌, length, replicate}
use Rattle.row.specs.Row.{tab}
use Rattle.operation.specs.declared.Operation.{Operation}
use Rattle.operation.specs.declared.WeylError.{WeylError}
use Rattle.circuit.specs.Circuit.{measured}
use Rattle.runs.specs.Direct.{State, direct_run}
use Rattle.runs.specs.Frame.{no_frame, verdict_of}
use Rattle.runs.specs.Raised.{final_frame, result_shifts}
use Rattle.runs.specs.Carry.{shifted_byte_at}
use Rattle.shots.specs.Shots.{shot_bytes, shot_run}

-- verdict and results of a shot, from the clean run's end
unfoldable pub clean_plus : ℕ → ℕ → List Operation → State → List WeylError → List ℕ
clean_plus d n ops clean errors =
    verdict_of d n (final_frame d n ops errors (no_frame n)) clean.rows
    ∷ tab (shifted_byte_at d clean.results (result_shifts d n ops errors (no_frame n))) (2 * measured ops (length ops))

-- the clean run
abbrev pub clean_run : ℕ → ℕ → List Operation → List ℕ → List ℕ → State
clean_run d n ops choices t = direct_run d n ops [] choices (record { rows = t; results = replicate (2 * measured ops (length ops)) 0 })

abbrev pub CleanServes : Type 0
CleanServes = (d n : ℕ) (ops : List Operation) (choices t : List ℕ) (errors : List WeylError) → 0 < d
    → shot_bytes (shot_run d n ops choices t errors) ≡ clean_plus d n ops (clean_run d n ops choices t) errors
