use Rattle.lanes.specs.Lanes.{Lanes}
use Rattle.calendar.specs.Calendar.{lane_errors, QueueAt, ErrorsTaken}
use Rattle.calendar.proofs.Queue.apply_at_place.Given as goal

abbrev pub invariant-loop-k : goal.invariant-loop-k
invariant-loop-k l = record {
  queue : QueueAt (lane_errors l.errors) l.self l.p l.k;
  taken : ErrorsTaken l.errors.d l.errors.n (lane_errors l.errors) l.p l.fn.v l.fn.self.cursors l.v l.self.cursors;
  lanes : Lanes l.errors.d l.errors.n l.v;
}
