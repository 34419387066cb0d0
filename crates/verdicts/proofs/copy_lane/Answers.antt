use Rattle.std.proofs.Common.{◌∙◌, refl, arith}
use Rattle.row.proofs.Fill.{filled_none, filled_more, filled-all, filled-whole}
use Rattle.lanes.specs.Lanes.{lane}
use Rattle.verdicts.proofs.copy_lane.Goals as goal

pub loop-s-init : goal.loop-s-init
loop-s-init c = filled_none _ _

pub loop-s-preserved : goal.loop-s-preserved
loop-s-preserved c = filled_more _ _ _ _ c.loop-s.invariant (omega arith) _ refl

pub returns : goal.returns
unfolding lane
returns c = filled-all _ _ _ _ _ c.loop-s.invariant c.loop-s.auto.s-end c.loop-s-test.false ∙ filled-whole _ _ _ c.requires.frame_room
