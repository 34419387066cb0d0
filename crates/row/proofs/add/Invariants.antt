use Rattle.row.specs.Row.{sum_at}
use Rattle.row.proofs.Fill.{Filled}
use Rattle.row.proofs.add.Given as goal

abbrev pub invariant-loop-k : goal.invariant-loop-k
invariant-loop-k l = Filled (sum_at l.d l.fn.v l.w) l.fn.v l.k l.v
