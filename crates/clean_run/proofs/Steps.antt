-- Without errors a step of the direct run is its operation, and nothing comes after the last.
-- Assumes nothing.
use mathlib.Core.Path.{◌≡◌, sym, ap, ◌∙◌}
use mathlib.Core.List.{List, []}
use Prim.Native.Nat.{ℕ, ◌+◌, ◌≤◌}
use native.Mathlib.Nat.{le_antisymm}
use lib.ListN.{length}
use Rattle.operation.specs.declared.Operation.{Operation}
use Rattle.circuit.specs.Circuit.{op_at, measured, chosen}
use Rattle.runs.specs.Run.{steps_from}
use Rattle.runs.specs.Direct.{State, errors_on_rows, direct_operation, direct_errors, direct_step, direct_run}
use Rattle.runs.proofs.Steps.{run_more}

module _ (d n : ℕ) (ops : List Operation) (choices : List ℕ) (first : State) where
  abbrev pub so_far : ℕ → State
  so_far k = steps_from (direct_step d n ops [] choices) 0 first k

  pub one_more : (k : ℕ) {c j : ℕ} {before after : State} → c ≡ chosen ops k → j ≡ measured ops k → before ≡ so_far k
      → after ≡ direct_operation d n choices c j before (op_at ops k)
      → after ≡ so_far (k + 1)
  unfolding direct_step direct_errors errors_on_rows
  one_more k x m b a =
      a ∙ rw (x, m, b) (sym (run_more (direct_step d n ops [] choices) first k))

  pub all_done : (k : ℕ) {end : State} → end ≡ so_far k → k ≤ length ops → length ops ≤ k → end ≡ direct_run d n ops [] choices first
  unfolding direct_run direct_errors errors_on_rows
  all_done k e a b = e ∙ ap so_far (le_antisymm a b)
