use Rattle.std.proofs.Common.{arith}
use Rattle.row.proofs.Fill.{filled_none, filled_more}
use Rattle.columns.proofs.lay_column.Goals as goal

pub loop-j-init : goal.loop-j-init
loop-j-init c = filled_none _ _

pub loop-j-preserved : goal.loop-j-preserved
loop-j-preserved c = filled_more _ _ _ _ c.loop-j.invariant (omega arith) _ c.from.ensures
