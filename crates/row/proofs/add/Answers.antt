use Rattle.std.proofs.Common.{◌≡◌, arith, get_or}
use Rattle.row.proofs.Fill.{filled_none, filled_next, filled_more}
use Rattle.row.proofs.add.Goals as goal

pub loop-k-init : goal.loop-k-init
loop-k-init c = filled_none _ _

pub add-requires : goal.add-requires
add-requires c =
    let k = c.loop-k.k in
    let next : get_or c.loop-k.v k 0 ≡ get_or c.args.v.now k 0 = filled_next _ _ _ _ c.loop-k.invariant (omega arith) in
    (c.requires.small, rw next (c.requires.left.below k (omega arith)), c.requires.right.below k (omega arith))

pub loop-k-preserved : goal.loop-k-preserved
loop-k-preserved c =
    let k = c.loop-k.k in
    let next : get_or c.loop-k.v k 0 ≡ get_or c.args.v.now k 0 = filled_next _ _ _ _ c.loop-k.invariant (omega arith) in
    filled_more _ _ _ _ c.loop-k.invariant (omega arith) _ (rw next at c.add.ensures)
