use Rattle.lanes.specs.Lanes.{power_at}
use Rattle.row.proofs.Fill.{Filled}
use Rattle.verdicts.proofs.copy_lane.Given as goal

abbrev pub invariant-loop-s : goal.invariant-loop-s
invariant-loop-s l = Filled (power_at l.v l.l) l.initial.frame l.s l.frame
