use Rattle.std.proofs.Common.{◌≡◌, ◌*◌, ◌≤◌}
use Rattle.row.specs.Row.{dot}
use Rattle.row.proofs.dot.Given as goal

abbrev pub invariant-loop-k : goal.invariant-loop-k
invariant-loop-k l = record { value : l.sum ≡ dot l.n l.v l.w l.k; most : l.sum ≤ 900 * l.k }
