-- The stages of a run: steps, then the errors after all operations. The worked runs are named so that they are checked first.
-- Assumes nothing.
use mathlib.Core.Path.{◌≡◌, refl, ap, ◌∙◌}
use mathlib.Core.List.{List}
use Prim.Native.Nat.{ℕ, zero, suc, ◌+◌, ◌<◌, ◌≤◌}
use native.Mathlib.Nat.{le_refl, zero-add}
use native.Mathlib.Omega.{arith}
use lib.ListN.{length}
use borrow.Author.Tests.{lt-ltb, le-ltb}
use Rattle.operation.specs.declared.Operation.{Operation}
use Rattle.operation.specs.declared.WeylError.{WeylError}
use Rattle.runs.specs.Run.{steps_from}
use Rattle.runs.specs.Direct.{State, direct_errors, direct_step, direct_run}
use Rattle.halts.specs.Halt.{direct_stage}

module _ (d n : ℕ) (ops : List Operation) (errors : List WeylError) (choices : List ℕ) where
  pub stage-step : (k : ℕ) (st : State) → k < length ops → direct_stage d n ops errors choices k st ≡ direct_step d n ops errors choices k st
  unfolding direct_stage
  stage-step k st l = rw (lt-ltb k (length ops) l)

  pub stage-last : (st : State) → direct_stage d n ops errors choices (length ops) st ≡ direct_errors d n ops errors choices (length ops) st
  unfolding direct_stage
  stage-last st = rw (le-ltb (length ops) (length ops) (le_refl (length ops)))

  -- up to the last operation stages are steps
  pub stages_steps : (from : ℕ) (st : State) (count : ℕ) → from + count ≤ length ops
      → steps_from (direct_stage d n ops errors choices) from st count ≡ steps_from (direct_step d n ops errors choices) from st count
  unfolding steps_from
  stages_steps from st zero l = refl
  stages_steps from st (suc m) l =
      stage-step (from + m) _ (omega arith) ∙ ap (direct_step d n ops errors choices (from + m)) (stages_steps from st m (omega arith))

  -- and all of them are the direct run
  pub stages-all : (st : State) → steps_from (direct_stage d n ops errors choices) 0 st (suc (length ops)) ≡ direct_run d n ops errors choices st
  unfolding steps_from direct_run
  stages-all st =
      rw (zero-add (length ops))
      (stage-last _ ∙ ap (direct_errors d n ops errors choices (length ops)) (stages_steps 0 st (length ops) (omega arith)))
