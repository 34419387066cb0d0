-- The powers below j are done.
use Rattle.row.specs.Row.{sum_at}
use Rattle.row.proofs.Fill.{Filled}
use Rattle.measurement_collapse.proofs.next_power.Given as goal

abbrev pub invariant-loop-j : goal.invariant-loop-j
invariant-loop-j l = Filled (sum_at l.m.d l.pivot l.v) l.fn.next l.j l.next
