use Rattle.std.proofs.Common.{arith}
use Rattle.lanes.proofs.Lanes.{lane-frame, lane-changed, alone-lanes}
use Rattle.lanes.proofs.change_lane.Goals as goal

pub change-requires-clause-frame : goal.change-requires-clause-frame
change-requires-clause-frame g c = lane-frame c.requires.lane

pub returns-clause-changed : goal.returns-clause-changed
returns-clause-changed g c = lane-changed c.change.ensures

pub returns-clause-lanes : goal.returns-clause-lanes
returns-clause-lanes g c = λ p.
    alone-lanes (g.met.C.FrameChange.keeps _ _ _ (omega arith) c.requires.operands) c.requires.lane.inside p (lane-changed c.change.ensures)
