-- The mirror's operations, one by one.
-- Assumes nothing.
use mathlib.Core.Path.{◌≡◌}
use mathlib.Core.List.{List}
use Prim.Native.Nat.{ℕ, ◌<◌}
use lib.ListN.{length}
use Rattle.row.proofs.Fill.{tab-length, tab-get}
use Rattle.operation.specs.declared.Operation.{Operation}
use Rattle.operation.specs.declared.Operation.TheVariants.{Measure}
use Rattle.circuit.specs.Circuit.{op_at}
use Rattle.mirror_book.specs.Mirrored.{mirror_at, mirrored}

module _ (d : ℕ) (ops : List Operation) where
  pub mirrored-length : length (mirrored d ops) ≡ length ops
  unfolding mirrored
  mirrored-length = tab-length (mirror_at d ops) (length ops)

  pub mirrored-at : (k : ℕ) → k < length ops → op_at (mirrored d ops) k ≡ mirror_at d ops k
  unfolding mirrored
  mirrored-at k l = tab-get (mirror_at d ops) (length ops) k (Measure 0) l
