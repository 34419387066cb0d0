-- The entries below k are made.
use Rattle.std.proofs.Common.{◌≡◌, ℕ, ◌%◌, ◌<◌, length, get_or}
use Rattle.tables.proofs.rests.Given as goal

abbrev pub invariant-loop-k : goal.invariant-loop-k
invariant-loop-k l = (length l.rests ≡ 96) × ((j : ℕ) → j < l.k → get_or l.rests j 0 ≡ j % l.m.d)
