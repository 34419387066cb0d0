-- The mirror of a list of operations.
use Rattle.std.specs.Prelude.{List, ℕ, suc, ◌-◌, length}
use Rattle.row.specs.Row.{tab}
use Rattle.operation.specs.declared.Operation.{Operation}
use Rattle.circuit.specs.Circuit.{op_at}
use Rattle.mirror_book.specs.Undoing.{undoing}

-- Operations reversed, each turned into its inverse: operation k undoes operation N − 1 − k of N.
abbrev pub mirror_at : ℕ → List Operation → ℕ → Operation
mirror_at d ops k = undoing d (op_at ops (length ops - suc k))

unfoldable pub mirrored : ℕ → List Operation → List Operation
mirrored d ops = tab (mirror_at d ops) (length ops)
