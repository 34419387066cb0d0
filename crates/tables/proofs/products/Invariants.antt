-- The multiples of the numbers below x are made.
use Rattle.std.proofs.Common.{◌≡◌, ℕ, [], ◌<◌, length, get_or}
use Rattle.tables.specs.Tables.{MultiplesOf}
use Rattle.tables.proofs.products.Given as goal

abbrev pub invariant-loop-x : goal.invariant-loop-x
invariant-loop-x l = (length l.products ≡ 32) × ((j : ℕ) → j < l.x → MultiplesOf l.m.d j (get_or l.products j []))
