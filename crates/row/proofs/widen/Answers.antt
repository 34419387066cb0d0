use Rattle.std.proofs.Common.{arith}
use Rattle.row.proofs.Fill.{filled_none, filled_more}
use Rattle.row.proofs.widen.Goals as goal

pub loop-k-init : goal.loop-k-init
loop-k-init c = filled_none _ _

pub loop-k-preserved : goal.loop-k-preserved
loop-k-preserved c = filled_more _ _ _ _ c.loop-k.invariant (omega arith) _ c.from.ensures
