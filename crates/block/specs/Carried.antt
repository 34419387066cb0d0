-- The frames of up to 256 shots carried over the operations of one circuit.
use Rattle.std.specs.Prelude.{◌≡◌, List, ℕ, ◌<◌, length}
use Rattle.operation.specs.declared.Operation.{Operation}
use Rattle.operation.specs.declared.WeylError.{WeylError}
use Rattle.runs.specs.Raised.{carried_frame, final_frame}
use Rattle.lanes.specs.Lanes.{lane}

-- each of the first `used` lanes of v, carried over the first k operations with the errors of its shot, stands in w
pub record CarriedTo (d n : ℕ) (ops : List Operation) (errors : ℕ → List WeylError) (used k : ℕ) (v w : List ℕ) : Type 0 where
  pub len : length w ≡ length v
  pub each : (l : ℕ) → l < used → lane n w l ≡ carried_frame d n ops (errors l) (lane n v l) k

-- each of them, carried over all operations and through the errors after them, stands in w
pub record CarriedAll (d n : ℕ) (ops : List Operation) (errors : ℕ → List WeylError) (used : ℕ) (v w : List ℕ) : Type 0 where
  pub len : length w ≡ length v
  pub each : (l : ℕ) → l < used → lane n w l ≡ final_frame d n ops (errors l) (lane n v l)
