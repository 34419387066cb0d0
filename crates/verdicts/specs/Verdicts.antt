-- The verdicts of shots, each by the shifts of its lane.
use Rattle.std.specs.Prelude.{◌≡◌, List, ℕ, zero, suc, ◌+◌, ◌<◌, length, get_or}
use Rattle.runs.specs.Frame.{verdict_of}
use Rattle.lanes.specs.Lanes.{lane}
use Rattle.tile.specs.Tile.{shot_at}

-- how many of the first k lanes are shifted
unfoldable pub shifted_lanes : ℕ → ℕ → List ℕ → List ℕ → ℕ → ℕ
shifted_lanes d n v t zero = 0
shifted_lanes d n v t (suc k) = shifted_lanes d n v t k + verdict_of d n (lane n v k) t

-- Byte 0 of shot i is f i, for each of the first k shots; each later byte of each of the `used` shots is as it was.
pub record VerdictsWritten (w used k : ℕ) (f : ℕ → ℕ) (out out' : List ℕ) : Type 0 where
  pub len : length out' ≡ length out
  pub first : (i : ℕ) → i < k → get_or (shot_at w out' i) 0 0 ≡ f i
  pub rest : (i b : ℕ) → i < used → 0 < b → b < w → get_or (shot_at w out' i) b 0 ≡ get_or (shot_at w out i) b 0

abbrev pub verdict_in : ℕ → ℕ → List ℕ → List ℕ → ℕ → ℕ
verdict_in d n v t l = verdict_of d n (lane n v l) t
