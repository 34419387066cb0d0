-- What the loop over the entries is handed.
use Rattle.std.specs.Prelude.{◌≡◌, true, List, ℕ, ◌%◌, ◌<◌, length}
use Rattle.modular.specs.Dimension.{listed}
use Rattle.circuit.specs.Circuit.{op_at, gate, kind}
use Rattle.book.specs.Decoded.{operations_of}
use Rattle.operation_codes.specs.Allowed.{AllAllowed}

-- the operations of an accepted book: whole entries, each allowed, and each a gate
pub record Entries (d n : ℕ) (ops : List ℕ) : Type 0 where
  pub dimension : listed d ≡ true
  pub whole : length ops % 4 ≡ 0
  pub operations : AllAllowed d n (operations_of d n ops)
  pub gates : (k : ℕ) → k < length (operations_of d n ops) → kind (op_at (operations_of d n ops) k) ≡ gate
