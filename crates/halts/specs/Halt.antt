-- A direct run that halts and goes on, over decoded lists. The statements are proved in proofs/.
use Rattle.std.specs.Prelude.{◌≡◌, cond, List, [], ◌∷◌, ℕ, ◌+◌, ◌-◌, ◌<◌, ◌≤◌, ltb, length}
use Rattle.modular.specs.Dimension.{Dimension}
use Rattle.operation.specs.declared.Operation.{Operation}
use Rattle.operation.specs.declared.WeylError.{WeylError}
use Rattle.circuit.specs.Circuit.{Accepted}
use Rattle.validity.specs.Validity.{Valid}
use Rattle.runs.specs.Run.{steps_from}
use Rattle.runs.specs.Direct.{State, direct_errors, direct_step, direct_run}

-- A run's number is that of its next operation. A finished run, with the errors after the last operation applied too, has the number of
-- operations plus one.
abbrev pub finished : (operations : ℕ) → ℕ
finished operations = operations + 1

-- The number after a count of further operations. A count larger than the operations that are left runs to the finish.
abbrev pub next_of : (operations from count : ℕ) → ℕ
next_of operations from count = cond (ltb operations (from + count)) (finished operations) (from + count)

-- What may be done with a halted run: go on for a count of operations, or look at a qudit.
pub data Action : Type 0 where
  go_on : (count : ℕ) → Action
  look_at : (qudit : ℕ) → Action

-- the number that some actions reach
unfoldable pub reaches : (operations from : ℕ) → List Action → ℕ
reaches operations from [] = from
reaches operations from (go_on count ∷ actions) = reaches operations (next_of operations from count) actions
reaches operations from (look_at qudit ∷ actions) = reaches operations from actions

module _ (d n : ℕ) (ops : List Operation) (errors : List WeylError) (choices : List ℕ) where
  -- Stage k is step k of the direct run; the stage after the last operation has errors alone, those placed after all operations.
  unfoldable pub direct_stage : ℕ → State → State
  direct_stage k st = cond (ltb k (length ops)) (direct_step d n ops errors choices k st) (direct_errors d n ops errors choices k st)

  -- the stages from number `from` up to number `next`
  unfoldable pub direct_to : (from next : ℕ) → State → State
  direct_to from next st = steps_from direct_stage from st (next - from)

  -- A count of operations from a number on. Errors placed before the next operation aren't yet applied, and from a finished run nothing
  -- is done.
  abbrev pub direct_from : (from count : ℕ) → State → State
  direct_from from count st = direct_to from (next_of (length ops) from count) st

-- A run that is told to halt after a count of operations has made as many steps: errors placed before the next one aren't yet applied.
abbrev pub HaltedRun : Type 0
HaltedRun = (d n : ℕ) (ops : List Operation) (errors : List WeylError) (choices : List ℕ) (st : State) (count : ℕ) → count ≤ length ops
    → direct_from d n ops errors choices 0 count st ≡ steps_from (direct_step d n ops errors choices) 0 st count

-- A count larger than the operations runs to the finish: that is the direct run.
abbrev pub WholeRun : Type 0
WholeRun = (d n : ℕ) (ops : List Operation) (errors : List WeylError) (choices : List ℕ) (st : State) (count : ℕ) → length ops < count
    → direct_from d n ops errors choices 0 count st ≡ direct_run d n ops errors choices st

-- Halting and going on is going on at once, from any number up to a finished run's.
abbrev pub GoesOn : Type 0
GoesOn = (d n : ℕ) (ops : List Operation) (errors : List WeylError) (choices : List ℕ) (st : State) (from one two : ℕ)
    → from ≤ finished (length ops)
    → direct_from d n ops errors choices (next_of (length ops) from one) two (direct_from d n ops errors choices from one st)
    ≡ direct_from d n ops errors choices from (one + two) st

-- Going on keeps a tableau valid, from any number.
abbrev pub GoingOnKeepsValid : Type 0
GoingOnKeepsValid = (d n : ℕ) → Dimension d → (ops : List Operation) (errors : List WeylError) (choices : List ℕ)
    → Accepted d n ops errors choices
    → (from count : ℕ) (st : State) → Valid d n st.rows → Valid d n (direct_from d n ops errors choices from count st).rows
