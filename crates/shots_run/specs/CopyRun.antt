-- What the shots of a tray fill, and how many are shifted, by one clean run on a copy of the tableau.
use Rattle.std.specs.Prelude.{List, ℕ, ◌+◌, ◌*◌}
use Rattle.tableau.specs.Tableau.{part}
use Rattle.circuit.specs.Circuit.{measurement_count}
use Rattle.book.specs.Decoded.{operations_of}
use Rattle.tray.specs.Tray.{shots_in}
use Rattle.runs.specs.Direct.{State}
use Rattle.shots.specs.Clean.{clean_run}
use Rattle.lane_shots.specs.LaneShots.{shifted_shots}
use Rattle.blocks.specs.Blocks.{shot_errors, ShotsFilled}

-- the clean run on a copy of the tableau's bytes
abbrev pub copy_run : (d n : ℕ) (ops choices t : List ℕ) → State
copy_run d n ops choices t = clean_run d n (operations_of d n ops) choices (part 0 (2 * n * (2 * n + 1)) t)

-- every shot of the tray by that run, and how many are shifted
module _ (d n : ℕ) (ops choices t tray : List ℕ) where
  abbrev pub AllShotsFilled : (out out' : List ℕ) → Type 0
  AllShotsFilled out out' =
      ShotsFilled d n (operations_of d n ops) (copy_run d n ops choices t) (shot_errors tray) (1 + 2 * measurement_count (operations_of d n ops)) 0 (shots_in tray) out out'

  abbrev pub all_shots_shifted : ℕ
  all_shots_shifted = shifted_shots d n (operations_of d n ops) (copy_run d n ops choices t) (shot_errors tray) (shots_in tray)
