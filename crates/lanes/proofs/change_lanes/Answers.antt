use Rattle.lanes.proofs.Lanes.{done_none}
use Rattle.lanes.proofs.change_lanes.Goals as goal

pub loop-l-init : goal.loop-l-init
loop-l-init g c = (done_none, c.requires.lanes)
