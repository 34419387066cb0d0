-- The choices that the operations passed take.
use Rattle.std.proofs.Common.{◌≡◌, ◌≤◌}
use Rattle.book_body.specs.Body.{choice_takers}
use Rattle.book_body.proofs.choice_takers.Given as goal

abbrev pub invariant-loop-k : goal.invariant-loop-k
invariant-loop-k l = (l.sum ≤ l.k) × (l.sum ≡ choice_takers l.ops l.k)
