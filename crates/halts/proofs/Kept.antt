-- Going on keeps a tableau valid, and the length of its results.
-- Assumes nothing.
use mathlib.Core.Path.{◌≡◌, refl, ◌∙◌}
use mathlib.Core.Bool.{Bool, true, false, cond}
use mathlib.Core.List.{List}
use Prim.Native.Nat.{ℕ, zero, suc, ◌+◌, ◌-◌}
use lib.Dec.{ltb}
use lib.ListN.{length}
use borrow.Author.Tests.{ltb-true}
use Rattle.modular.specs.Dimension.{Dimension}
use Rattle.operation.specs.declared.Operation.{Operation}
use Rattle.operation.specs.declared.WeylError.{WeylError}
use Rattle.circuit.specs.Circuit.{Accepted}
use Rattle.validity.specs.Validity.{Valid}
use Rattle.runs.specs.Run.{steps_from}
use Rattle.runs.specs.Direct.{State, direct_errors, direct_step}
use Rattle.run_laws.proofs.Sound.{step-keeps-valid, place-valid}
use Rattle.runs.proofs.Results.{step_results}
use Rattle.halts.specs.Halt.{next_of, direct_stage, direct_to, GoingOnKeepsValid}

module _ (d n : ℕ) (ops : List Operation) (errors : List WeylError) (choices : List ℕ) where
  module _ (dim : Dimension d) (ac : Accepted d n ops errors choices) where
    stage-valid : (k : ℕ) (st : State) → Valid d n st.rows → Valid d n (direct_stage d n ops errors choices k st).rows
    unfolding direct_stage
    stage-valid k st ok = by (ltb k (length ops)) refl
      where
        by : (b : Bool) → ltb k (length ops) ≡ b
            → Valid d n (cond b (direct_step d n ops errors choices k st) (direct_errors d n ops errors choices k st)).rows
        by true e = step-keeps-valid d n dim ops errors choices ac k (ltb-true k (length ops) e) st ok
        by false e = place-valid d n dim ops errors choices ac k st ok

    stages-valid : (from : ℕ) (st : State) → Valid d n st.rows → (count : ℕ)
        → Valid d n (steps_from (direct_stage d n ops errors choices) from st count).rows
    unfolding steps_from
    stages-valid from st ok zero = ok
    stages-valid from st ok (suc m) = stage-valid (from + m) _ (stages-valid from st ok m)

  stage-results : (k : ℕ) (st : State) → length (direct_stage d n ops errors choices k st).results ≡ length st.results
  unfolding direct_stage direct_errors
  stage-results k st = by (ltb k (length ops))
    where
      by : (b : Bool) → length (cond b (direct_step d n ops errors choices k st) (direct_errors d n ops errors choices k st)).results ≡ length st.results
      by true = step_results d n ops errors choices k st
      by false = refl

  stages-results : (from : ℕ) (st : State) (count : ℕ)
      → length (steps_from (direct_stage d n ops errors choices) from st count).results ≡ length st.results
  unfolding steps_from
  stages-results from st zero = refl
  stages-results from st (suc m) = stage-results (from + m) _ ∙ stages-results from st m

-- up to any number
pub to-keeps-valid : (d n : ℕ) → Dimension d → (ops : List Operation) (errors : List WeylError) (choices : List ℕ) → Accepted d n ops errors choices
    → (from next : ℕ) (st : State) → Valid d n st.rows
    → Valid d n (direct_to d n ops errors choices from next st).rows
unfolding direct_to
to-keeps-valid d n dim ops errors choices ac from next st ok = stages-valid d n ops errors choices dim ac from st ok (next - from)

pub to-results : (d n : ℕ) (ops : List Operation) (errors : List WeylError) (choices : List ℕ) (from next : ℕ) (st : State)
    → length (direct_to d n ops errors choices from next st).results ≡ length st.results
unfolding direct_to
to-results d n ops errors choices from next st = stages-results d n ops errors choices from st (next - from)

pub going-on-keeps-valid : GoingOnKeepsValid
going-on-keeps-valid d n dim ops errors choices ac from count st ok =
    to-keeps-valid d n dim ops errors choices ac from (next_of (length ops) from count) st ok
