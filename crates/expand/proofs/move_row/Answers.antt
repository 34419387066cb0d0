-- One byte more is moved.
use Rattle.std.proofs.Common.{◌≡◌, refl, arith, le_antisymm}
use Rattle.expand.proofs.Bytes.{moving_none, moving_more, moving_all}
use Rattle.expand.proofs.move_row.Goals as goal

pub loop-j-init : goal.loop-j-init
loop-j-init c = moving_none

pub loop-j-preserved : goal.loop-j-preserved
loop-j-preserved c = moving_more _ _ (omega arith) (omega arith) refl c.loop-j.invariant

pub returns : goal.returns
returns c =
    let end : c.loop-j.j ≡ c.args.w = le_antisymm (omega arith) c.loop-j-test.false in
    moving_all _ _ _ _ _ (omega arith) (omega arith) (rw (← end) c.loop-j.invariant)
