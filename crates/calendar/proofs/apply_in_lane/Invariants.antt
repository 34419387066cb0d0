use Rattle.runs.specs.Reached.{Passing}
use Rattle.book.specs.Decoded.{errors_of}
use Rattle.lanes.specs.Lanes.{Lanes}
use Rattle.calendar.proofs.Applying.{Applying}
use Rattle.calendar.proofs.apply_in_lane.Given as goal

abbrev pub invariant-loop-i : goal.invariant-loop-i
invariant-loop-i l = record {
  passing : Passing (errors_of l.errors) l.i l.k;
  applying : Applying l.d l.n l.k l.l l.j l.i (errors_of l.errors) l.initial.v l.v;
  lanes : Lanes l.d l.n l.v;
}
