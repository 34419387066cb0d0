-- Where a run stands among the errors, whose places never fall.
use Rattle.std.specs.Prelude.{◌≡◌, List, ℕ, ◌<◌, ◌≤◌, length}
use Rattle.operation.specs.declared.Operation.{Operation}
use Rattle.operation.specs.declared.WeylError.{WeylError}
use Rattle.circuit.specs.Circuit.{err_at, measured}
use Rattle.runs.specs.declared.Position.{Position}

-- entry j is the first whose place is not below k
pub record Reached (errors : List WeylError) (j k : ℕ) : Type 0 where
  pub inside : j ≤ length errors
  pub spent : (i : ℕ) → i < j → (err_at errors i).place < k
  pub left : (i : ℕ) → j ≤ i → i < length errors → k ≤ (err_at errors i).place

-- before entry i, on the way through the errors of place k
pub record Passing (errors : List WeylError) (i k : ℕ) : Type 0 where
  pub inside : i ≤ length errors
  pub spent : (l : ℕ) → l < i → (err_at errors l).place ≤ k
  pub left : (l : ℕ) → i ≤ l → l < length errors → k ≤ (err_at errors l).place

-- Where a run stands before step k: at the first error entry not yet taken, after as many measurements.
pub record AtStep (ops : List Operation) (errors : List WeylError) (k : ℕ) (at : Position) : Type 0 where
  pub reached : Reached errors at.entry k
  pub count : at.measurements ≡ measured ops k
