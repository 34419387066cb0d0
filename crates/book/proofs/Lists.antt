-- The lists that bodies stand for, entry by entry.
-- Assumes nothing.
use mathlib.Core.Path.{◌≡◌}
use mathlib.Core.List.{List}
use Prim.Native.Nat.{ℕ, ◌/◌, ◌<◌}
use lib.ListN.{length}
use Rattle.row.proofs.Fill.{tab-length, tab-get}
use Rattle.operation.specs.declared.Operation.TheVariants.{Measure}
use Rattle.circuit.specs.Circuit.{op_at, err_at}
use Rattle.book_entries.specs.Entry.{error_at}
use Rattle.book.specs.Decoded.{operation_of, operations_of, errors_of}

module _ (d n : ℕ) (ops : List ℕ) where
  pub op-count : length (operations_of d n ops) ≡ length ops / 4
  unfolding operations_of
  op-count = tab-length (operation_of d n ops) (length ops / 4)

  pub op-at : (k : ℕ) → k < length ops / 4 → op_at (operations_of d n ops) k ≡ operation_of d n ops k
  unfolding operations_of
  op-at k h = tab-get (operation_of d n ops) (length ops / 4) k (Measure 0) h

module _ (errors : List ℕ) where
  pub error-count : length (errors_of errors) ≡ length errors / 5
  unfolding errors_of
  error-count = tab-length (error_at errors) (length errors / 5)

  pub error-at : (j : ℕ) → j < length errors / 5 → err_at (errors_of errors) j ≡ error_at errors j
  unfolding errors_of
  error-at j h = tab-get (error_at errors) (length errors / 5) j _ h

pub ruleset listed_entries = (op-count, op-at, error-count, error-at)
