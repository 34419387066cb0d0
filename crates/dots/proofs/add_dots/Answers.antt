use Rattle.std.proofs.Common.{arith}
use Rattle.dots.proofs.Combined.{copied, copied-small, sums_none, sums_of}
use Rattle.dots.proofs.add_dots.Goals as goal

pub loop-q-init : goal.loop-q-init
loop-q-init c = sums_none _ _ _ c.requires.zeros

pub add_eight-requires-clause-factors : goal.add_eight-requires-clause-factors
add_eight-requires-clause-factors c = copied-small _ _ c.requires.factors (copied c.args.powers.now 64 c.widen.ensures)

pub returns : goal.returns
returns c = sums_of _ _ _ _ _ (copied c.args.powers.now 64 c.widen.ensures) (omega arith) c.loop-q.invariant
