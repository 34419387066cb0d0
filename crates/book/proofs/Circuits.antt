-- Where the entries of a circuit's operations lie.
-- Assumes nothing.
use Prim.Native.Nat.{ℕ, ◌/◌, ◌<◌}
use native.Mathlib.Omega.{arith}
use lib.ListN.{length}
use Rattle.book.specs.declared.bodies.Circuit.{Circuit}
use Rattle.book.specs.Circuits.{operation_list}
use Rattle.book.proofs.Lists.{op-count}

pub entry-inside : (c : Circuit) (k : ℕ) → k < length (operation_list c) → k < length c.ops.now / 4
entry-inside c k inside = omega (arith, op-count c.d c.n c.ops.now)
