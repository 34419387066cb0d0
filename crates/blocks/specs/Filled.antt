-- The shots of a tray in the buffer of all shots.
use Rattle.std.specs.Prelude.{List, ℕ}
use Rattle.runs.specs.Direct.{state_of}
use Rattle.block.specs.Block.{operations_in}
use Rattle.lane_shots.specs.LaneShots.{shifted_shots}
use Rattle.blocks.specs.Blocks.{shot_errors, ShotsFilled}
use Rattle.blocks.specs.declared.tray_shots.TrayShots.{TrayShots}

module _ (shots : TrayShots) where
  -- the bytes of the shots from `first` on, up to shot `next`
  abbrev pub TrayFilled : (first next : ℕ) (out out' : List ℕ) → Type 0
  TrayFilled first next out out' =
      ShotsFilled shots.clean.m.d shots.clean.n (operations_in shots.clean) (state_of shots.clean.t.now shots.clean.results.now) (shot_errors shots.tray.now) shots.clean.w first next out out'

  -- how many of the first k are shifted
  abbrev pub shifted_in_tray : ℕ → ℕ
  shifted_in_tray k =
      shifted_shots shots.clean.m.d shots.clean.n (operations_in shots.clean) (state_of shots.clean.t.now shots.clean.results.now) (shot_errors shots.tray.now) k
