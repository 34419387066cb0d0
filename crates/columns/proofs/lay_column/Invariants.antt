use Rattle.row.proofs.Fill.{Filled}
use Rattle.columns.specs.Columns.{power_at}
use Rattle.columns.proofs.lay_column.Given as goal

abbrev pub invariant-loop-j : goal.invariant-loop-j
invariant-loop-j l = Filled (power_at l.n l.t l.s) l.fn.column l.j l.column
