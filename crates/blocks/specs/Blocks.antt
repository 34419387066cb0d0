-- The shots of a tray in blocks: a shot that has errors takes a lane, and a block has up to 256.
use Rattle.std.specs.Prelude.{◌≡◌, ◌≢◌, ◌⊎◌, List, ℕ, ◌+◌, ◌*◌, ◌<◌, ◌≤◌, length, get_or}
use Rattle.operation.specs.declared.Operation.{Operation}
use Rattle.operation.specs.declared.WeylError.{WeylError}
use Rattle.circuit.specs.Circuit.{ErrorsInOrder}
use Rattle.book.specs.Decoded.{errors_of}
use Rattle.tray.specs.Tray.{shots_in, length_at, start_of, shot_body}
use Rattle.expand.specs.Expand.{noisy_among}
use Rattle.runs.specs.Direct.{State}
use Rattle.tile.specs.Tile.{shot_at}
use Rattle.calendar.specs.LaneErrors.{span_at}
use Rattle.calendar.specs.declared.lane_errors.Span.{Span}
use Rattle.lane_shots.specs.LaneShots.{bytes_by}

-- the errors of shot i
abbrev pub shot_errors : List ℕ → ℕ → List WeylError
shot_errors tray i = errors_of (shot_body tray i)

-- where a lane's body begins and how long it is: it is a shot's, or empty
pub record OfShot (tray : List ℕ) (span : Span) : Type 0 where
  pub shot : ℕ
  pub inside : shot < shots_in tray
  pub begins : span.start ≡ start_of tray shot
  pub long : span.size ≡ length_at tray shot

pub record NoBody (span : Span) : Type 0 where
  pub begins : span.start ≡ 0
  pub long : span.size ≡ 0

-- Of k shots, the first of them shot `first`, those that have errors stand in the lanes, in order.
pub record Assigned (tray : List ℕ) (first k : ℕ) (spans : List Span) : Type 0 where
  pub lane_of : (i : ℕ) → i < k → length_at tray (first + i) ≢ 0
      → ((span_at spans (noisy_among tray first i)).start ≡ start_of tray (first + i)) × ((span_at spans (noisy_among tray first i)).size ≡ length_at tray (first + i))
  pub shot_of : (l : ℕ) → l < 256 → OfShot tray (span_at spans l) ⊎ NoBody (span_at spans l)

-- a tray of at most 4096 shots, whose table and bodies lie in it
pub record InTray (tray : List ℕ) : Type 0 where
  pub shots : shots_in tray ≤ 4096
  pub table : 2 + 2 * shots_in tray ≤ length tray
  pub inside : (i : ℕ) → i < shots_in tray → start_of tray i + length_at tray i ≤ length tray

-- a tray whose bodies hold errors that a run can take
pub record TrayErrors (d n : ℕ) (tray : List ℕ) : Type 0 where
  pub lies : InTray tray
  pub errors-in-order : (i : ℕ) → i < shots_in tray → ErrorsInOrder d n (shot_errors tray i)

-- a block: `count` shots of the tray, the first of them shot `first`, of which `noisy` have errors, at most one for each lane
pub record BlockShots (tray : List ℕ) (first count noisy : ℕ) : Type 0 where
  pub inside : first + count ≤ shots_in tray
  pub noisy_count : noisy ≡ noisy_among tray first count
  pub lanes : noisy ≤ 256

-- The bytes of the shots from `first` on, up to shot `next`, are filled; every other byte is kept.
pub record ShotsFilled (d n : ℕ) (ops : List Operation) (clean : State) (errors : ℕ → List WeylError) (w first next : ℕ) (out out' : List ℕ) : Type 0 where
  pub len : length out' ≡ length out
  pub rows : (i : ℕ) → first ≤ i → i < next → shot_at w out' i ≡ bytes_by d n ops clean errors i
  pub before : (b : ℕ) → b < first * w → get_or out' b 0 ≡ get_or out b 0
  pub after : (b : ℕ) → next * w ≤ b → get_or out' b 0 ≡ get_or out b 0
