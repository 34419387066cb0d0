-- The bytes of up to 256 shots, one in each lane, by the clean run.
use Rattle.std.specs.Prelude.{◌≡◌, List, ℕ, zero, suc, ◌+◌, ◌<◌, length, get_or, replicate}
use Rattle.operation.specs.declared.Operation.{Operation}
use Rattle.operation.specs.declared.WeylError.{WeylError}
use Rattle.runs.specs.Direct.{State, state_of}
use Rattle.runs.specs.Frame.{no_frame, verdict_of}
use Rattle.runs.specs.Raised.{final_frame}
use Rattle.tile.specs.Tile.{shot_at}
use Rattle.calendar.specs.Calendar.{lane_errors}
use Rattle.calendar.specs.declared.lane_errors.LaneErrors.{LaneErrors}
use Rattle.calendar.specs.declared.Queue.{Queue}
use Rattle.block.specs.Block.{operations_in}
use Rattle.block.specs.declared.clean.CleanRun.{CleanRun}
use Rattle.shots.specs.Clean.{clean_plus}

-- n zeros
abbrev pub blank : ℕ → List ℕ
blank n = replicate n 0

-- all lanes stand in the first list, and no error is taken
pub record AllQueued (queue : Queue) : Type 0 where
  pub lanes : (l : ℕ) → l < 256 → get_or queue.slots l 0 ≡ l
  pub first : get_or queue.counts 0 0 ≡ 256
  pub others : (r : ℕ) → 0 < r → get_or queue.counts r 0 ≡ 0
  pub none_taken : queue.cursors ≡ blank 256

-- shots by the clean run; shot i has the errors `errors i`
module _ (d n : ℕ) (ops : List Operation) (clean : State) (errors : ℕ → List WeylError) where
  abbrev pub bytes_by : ℕ → List ℕ
  bytes_by i = clean_plus d n ops clean (errors i)

  abbrev pub verdict_by : ℕ → ℕ
  verdict_by i = verdict_of d n (final_frame d n ops (errors i) (no_frame n)) clean.rows

  -- how many of the first k are shifted
  unfoldable pub shifted_shots : ℕ → ℕ
  shifted_shots zero = 0
  shifted_shots (suc k) = shifted_shots k + verdict_by k

  -- the first k rows, of w bytes each, are the bytes of the first k shots
  pub record ShotRows (w k : ℕ) (out out' : List ℕ) : Type 0 where
    pub len : length out' ≡ length out
    pub rows : (i : ℕ) → i < k → shot_at w out' i ≡ bytes_by i

-- the shots of a block, by the clean run and the lanes' errors
module _ (clean : CleanRun) (errors : LaneErrors) where
  abbrev pub LaneRows : (used : ℕ) (out out' : List ℕ) → Type 0
  LaneRows used out out' =
      ShotRows clean.m.d clean.n (operations_in clean) (state_of clean.t.now clean.results.now) (lane_errors errors) clean.w used out out'

  abbrev pub shifted_in_lanes : ℕ → ℕ
  shifted_in_lanes used = shifted_shots clean.m.d clean.n (operations_in clean) (state_of clean.t.now clean.results.now) (lane_errors errors) used
