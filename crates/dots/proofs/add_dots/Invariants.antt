use Rattle.std.proofs.Common.{◌*◌}
use Rattle.dots.specs.Dots.{ColumnSums}
use Rattle.dots.proofs.add_dots.Given as goal

abbrev pub invariant-loop-q : goal.invariant-loop-q
invariant-loop-q l = ColumnSums l.left l.columns l.count (8 * l.q) l.sums
