use Rattle.row.specs.Row.{x_of}
use Rattle.row.proofs.Fill.{Filled}
use Rattle.row.proofs.widen.Given as goal

abbrev pub invariant-loop-k : goal.invariant-loop-k
invariant-loop-k l = Filled (x_of l.v) l.fn.xs l.k l.xs
