use Rattle.calendar.specs.Calendar.{lane_errors}
use Rattle.block.proofs.Results.{BlockProgress}
use Rattle.block.proofs.Block.run.Given as goal

abbrev pub invariant-loop-k : goal.invariant-loop-k
invariant-loop-k l = BlockProgress l.clean (lane_errors l.errors) l.k l.initial.self l.out l.self
