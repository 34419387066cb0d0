-- The entries below y are made.
use Rattle.std.proofs.Common.{◌≡◌, ℕ, ◌*◌, ◌%◌, ◌<◌, length, get_or}
use Rattle.tables.proofs.multiples.Given as goal

abbrev pub invariant-loop-y : goal.invariant-loop-y
invariant-loop-y l = (length l.multiples ≡ 32) × ((j : ℕ) → j < l.y → get_or l.multiples j 0 ≡ l.x * j % l.m.d)
