use Rattle.std.proofs.Common.{arith}
use Rattle.lanes.proofs.Lanes.{lane_below}
use Rattle.tile.proofs.Bytes.{run_none}
use Rattle.tile.proofs.Tile.write_row.Goals as goal

pub loop-l-init : goal.loop-l-init
loop-l-init c = run_none

pub add-requires : goal.add-requires
add-requires c =
    let v = c.requires.lanes in
    (v.dimension, c.requires.outcome_in, lane_below c.args.v.now (v.powers c.loop-l.l (omega arith)) _ (omega arith) (omega arith))
