use Rattle.std.proofs.Common.{◌≡◌, ◌+◌, ◌-◌, length, arith, rules}
use Rattle.calendar.specs.Calendar.{lane_errors, QueueAt}
use Rattle.calendar.proofs.Calendar.{queue_first, errors-taken-none, errors-taken-more, queued-next, all-applied}
use Rattle.calendar.proofs.Queue.apply_at_place.Goals as goal
use Rattle.calendar.proofs.Queue.apply_at_place.Goals.{After-loop-k}

pub loop-k-init : goal.loop-k-init
loop-k-init c =
    let room : length c.args.self.now.counts ≡ 256 = search rules in
    record { queue = queue_first room c.requires.queue; taken = errors-taken-none; lanes = c.requires.lanes }

pub visit-requires-clause-lanes : goal.visit-requires-clause-lanes
visit-requires-clause-lanes c = c.loop-k.invariant.lanes

pub visit-requires-clause-queue : goal.visit-requires-clause-queue
visit-requires-clause-queue c = let e : c.loop-k.k - 1 + 1 ≡ c.loop-k.k = omega arith in rw e c.loop-k.invariant.queue

pub loop-k-preserved : goal.loop-k-preserved
loop-k-preserved c =
    let e = c.visit.ensures in
    record { queue = e.queue; taken = errors-taken-more c.loop-k.invariant.taken e.taken; lanes = e.lanes }

-- no lane of the list is left
none : (c : After-loop-k) → QueueAt (lane_errors c.args.errors.now) c.loop-k.self c.args.p 0
none c = let z : c.loop-k.k ≡ 0 = omega arith in rw z at c.loop-k.invariant.queue

pub returns-clause-queue : goal.returns-clause-queue
returns-clause-queue c = queued-next c.args.errors.now.bodies.errors-in-order (none c)

pub returns-clause-applied : goal.returns-clause-applied
returns-clause-applied c = all-applied c.args.errors.now.bodies.errors-in-order (none c) c.requires.queue.reached c.loop-k.invariant.taken

pub returns-clause-lanes : goal.returns-clause-lanes
returns-clause-lanes c = c.loop-k.invariant.lanes
