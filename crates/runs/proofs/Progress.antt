-- A run before step k, whatever its state holds: it stands there, and this is its state so far.
-- Assumes nothing.
use mathlib.Core.Path.{◌≡◌, refl, sym, ap, ◌∙◌}
use mathlib.Core.List.{List}
use Prim.Native.Nat.{ℕ, ◌+◌, ◌≤◌}
use native.Mathlib.Nat.{le_antisymm}
use lib.ListN.{length}
use Rattle.operation.specs.declared.Operation.{Operation}
use Rattle.operation.specs.declared.WeylError.{WeylError}
use Rattle.circuit.specs.Circuit.{measured, chosen}
use Rattle.runs.specs.declared.Position.{Position}
use Rattle.runs.specs.Reached.{AtStep}
use Rattle.runs.specs.Run.{steps_from}
use Rattle.runs.proofs.Steps.{run_more}
use Rattle.runs.proofs.Taken.{reached-none}

module _ {A : Type 0} (ops : List Operation) (errors : List WeylError) (step : ℕ → A → A) (first : A) where
  pub record RunProgress (k : ℕ) (at : Position) (state : A) : Type 0 where
    pub at-step : AtStep ops errors k at
    pub taken : at.choices ≡ chosen ops k
    pub so_far : state ≡ steps_from step 0 first k

  pub progress_start : RunProgress 0 (record { entry = 0; measurements = 0; choices = 0 }) first
  unfolding measured chosen steps_from
  progress_start = record { at-step = record { reached = reached-none errors; count = refl }; taken = refl; so_far = refl }

  module _ {k : ℕ} {at : Position} {state : A} (g : RunProgress k at state) where
    pub progress_more : {next : Position} {after : A} → after ≡ step k state → AtStep ops errors (k + 1) next → next.choices ≡ chosen ops (k + 1)
        → RunProgress (k + 1) next after
    progress_more e s c = record { at-step = s; taken = c; so_far = e ∙ ap (step k) g.so_far ∙ sym (run_more step first k) }

    pub progress_ends : k ≤ length ops → length ops ≤ k → RunProgress (length ops) at state
    progress_ends a b = rw (le_antisymm b a) g
