use Rattle.std.proofs.Common.{◌≡◌, ℕ, ◌<◌, get_or}
use Rattle.lane_shots.proofs.enqueue_all.Given as goal

abbrev pub invariant-loop-l : goal.invariant-loop-l
invariant-loop-l l = record {
  lanes : (i : ℕ) → i < l.l → get_or l.queue.slots i 0 ≡ i;
  counts : l.queue.counts ≡ l.initial.queue.counts;
  cursors : l.queue.cursors ≡ l.initial.queue.cursors;
}
