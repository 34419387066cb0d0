use Rattle.std.proofs.Common.{◌+◌, ◌*◌}
use Rattle.row.proofs.Fill.{Filled}
use Rattle.dots.specs.Dots.{combined}
use Rattle.dots.proofs.add_eight.Given as goal

abbrev pub invariant-loop-j : goal.invariant-loop-j
invariant-loop-j l = Filled (λ j. combined l.left l.columns j (8 * l.q + 8)) l.fn.sums l.j l.sums
