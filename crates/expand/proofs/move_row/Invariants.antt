-- The first j bytes are moved.
use Rattle.expand.proofs.Bytes.{Moving}
use Rattle.expand.proofs.move_row.Given as goal

abbrev pub invariant-loop-j : goal.invariant-loop-j
invariant-loop-j l = Moving l.from l.to l.j l.fn.out l.out
