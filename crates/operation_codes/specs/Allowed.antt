-- The operations of a circuit whose entries the reader has accepted.
use Rattle.std.specs.Prelude.{◌≡◌, true, List, ℕ, ◌<◌, length}
use Rattle.operation.specs.declared.Operation.{Operation}
use Rattle.operation.specs.Operation.{allowed, named}
use Rattle.circuit.specs.Circuit.{op_at, measured}

abbrev pub AllAllowed : ℕ → ℕ → List Operation → Type 0
AllAllowed d n ops = (k : ℕ) → k < length ops → allowed d n (op_at ops k) ≡ true

abbrev pub AllNamed : List Operation → Type 0
AllNamed ops = (k : ℕ) → k < length ops → named (measured ops k) (op_at ops k) ≡ true
