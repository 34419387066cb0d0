use Rattle.std.proofs.Common.{arith}
use Rattle.correction.proofs.Correcting.{correcting_more}
use Rattle.correction.proofs.correct_by.Goals as goal

pub loop-l-preserved : goal.loop-l-preserved
loop-l-preserved g c = record {
  corrected = correcting_more c.reported.result (omega arith) c.reported.ensures c.subtract-shift.ensures c.loop-l.invariant.corrected c.change_lane.ensures.changed;
  lanes = c.change_lane.ensures.lanes c.loop-l.invariant.lanes;
}
