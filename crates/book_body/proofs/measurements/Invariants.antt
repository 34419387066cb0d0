-- The measurements among the operations passed.
use Rattle.std.proofs.Common.{◌≡◌, ◌≤◌}
use Rattle.book_body.specs.Body.{measurements}
use Rattle.book_body.proofs.measurements.Given as goal

abbrev pub invariant-loop-k : goal.invariant-loop-k
invariant-loop-k l = (l.sum ≤ l.k) × (l.sum ≡ measurements l.ops l.k)
