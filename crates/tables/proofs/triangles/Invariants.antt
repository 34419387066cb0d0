-- The entries below k are made.
use Rattle.std.proofs.Common.{◌≡◌, ℕ, ◌%◌, ◌<◌, length, get_or}
use Rattle.modular.specs.Modular.{tri}
use Rattle.tables.proofs.triangles.Given as goal

abbrev pub invariant-loop-k : goal.invariant-loop-k
invariant-loop-k l = (length l.triangles ≡ 32) × ((j : ℕ) → j < l.k → get_or l.triangles j 0 ≡ tri j % l.m.d)
