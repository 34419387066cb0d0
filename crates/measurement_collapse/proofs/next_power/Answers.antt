-- The loop makes the powers, and the phase is stored behind them.
use Rattle.std.proofs.Common.{arith}
use Rattle.row.specs.Row.{sum_at}
use Rattle.row.proofs.Fill.{filled_none, filled_more, filled-all}
use Rattle.measurement_collapse.proofs.Powers.{filled_front}
use Rattle.measurement_collapse.proofs.next_power.Goals as goal

pub loop-j-init : goal.loop-j-init
loop-j-init c = filled_none _ _

pub loop-j-preserved : goal.loop-j-preserved
loop-j-preserved c = filled_more _ _ _ _ c.loop-j.invariant (omega arith) _ c.add.ensures

pub returns : goal.returns
returns c =
    rw (filled-all _ _ _ _ _ c.loop-j.invariant (omega arith) c.loop-j-test.false)
    (filled_front (sum_at c.args.m.d c.args.pivot.now c.args.v.now) c.args.next.now c.args.n c.args.r (omega arith))
