-- A run that halts and goes on reaches what one call reaches.
-- Assumes nothing.
use mathlib.Core.Path.{◌≡◌, sym, ap, ◌∙◌}
use mathlib.Core.List.{List}
use Prim.Native.Nat.{ℕ, suc, ◌+◌, ◌-◌, ◌<◌, ◌≤◌}
use native.Mathlib.Omega.{arith}
use lib.ListN.{length}
use Rattle.operation.specs.declared.Operation.{Operation}
use Rattle.operation.specs.declared.WeylError.{WeylError}
use Rattle.runs.specs.Run.{steps_from}
use Rattle.runs.specs.Direct.{State, direct_step, direct_run}
use Rattle.runs.proofs.Steps.{steps_halt}
use Rattle.halts.specs.Halt.{finished, next_of, direct_stage, direct_to, direct_from, HaltedRun, WholeRun, GoesOn}
use Rattle.halts.proofs.Numbers.{next-halted, next-finished, next-is, next-next}
use Rattle.halts.proofs.Stages.{stages_steps, stages-all}

module _ (d n : ℕ) (ops : List Operation) (errors : List WeylError) (choices : List ℕ) where
  abbrev N : ℕ
  N = length ops

  abbrev stage : ℕ → State → State
  stage = direct_stage d n ops errors choices

  abbrev going : (from count : ℕ) → State → State
  going = direct_from d n ops errors choices

  halted : (st : State) (count : ℕ) → count ≤ N → going 0 count st ≡ steps_from (direct_step d n ops errors choices) 0 st count
  unfolding direct_to
  halted st count l =
      let q : next_of N 0 count - 0 ≡ count = omega (arith, next-halted N 0 count (omega arith)) in
      rw q (stages_steps d n ops errors choices 0 st count (omega arith))

  finish : (st : State) → direct_to d n ops errors choices 0 (finished N) st ≡ direct_run d n ops errors choices st
  unfolding direct_to
  finish st = let q : finished N - 0 ≡ suc N = omega arith in rw q (stages-all d n ops errors choices st)

  whole : (st : State) (count : ℕ) → N < count → going 0 count st ≡ direct_run d n ops errors choices st
  whole st count l = rw (next-finished N 0 count (omega arith)) (finish st)

  -- from a number to itself there is no stage
  none : (st : State) (k : ℕ) → direct_to d n ops errors choices k k st ≡ st
  unfolding direct_to steps_from
  none st k = let q : k - k ≡ 0 = omega arith in rw q

  -- one stretch of stages after the other
  along : (st : State) (from k next : ℕ) → from ≤ k → k ≤ next
      → direct_to d n ops errors choices k next (direct_to d n ops errors choices from k st) ≡ direct_to d n ops errors choices from next st
  unfolding direct_to
  along st from k next a b =
      let p : from + (k - from) ≡ k = omega arith in
      let q : (k - from) + (next - k) ≡ next - from = omega arith in
      ap (λ (z : ℕ). steps_from stage z (steps_from stage from st (k - from)) (next - k)) (sym p)
      ∙ sym (steps_halt stage from st (k - from) (next - k))
      ∙ ap (steps_from stage from st) q

  goes : (st : State) (from one two : ℕ) → from ≤ N + 1 → going (next_of N from one) two (going from one st) ≡ going from (one + two) st
  goes st from one two l =
      let k = next_of N from one in
      let a = next-is N from one in
      along st from k (next_of N k two) (a.on l) ((next-is N k two).on a.last)
      ∙ ap (λ (next : ℕ). direct_to d n ops errors choices from next st) (next-next N from one two)

pub halted_run : HaltedRun
halted_run = halted

pub whole_run : WholeRun
whole_run = whole

-- all stages
pub to-finish : (d n : ℕ) (ops : List Operation) (errors : List WeylError) (choices : List ℕ) (st : State)
    → direct_to d n ops errors choices 0 (finished (length ops)) st ≡ direct_run d n ops errors choices st
to-finish = finish

pub goes_on : GoesOn
goes_on = goes

-- a number that is reached already
pub stays : (d n : ℕ) (ops : List Operation) (errors : List WeylError) (choices : List ℕ) (st : State) (k : ℕ) → direct_to d n ops errors choices k k st ≡ st
stays = none

-- one stretch of stages after the other
pub goes-along : (d n : ℕ) (ops : List Operation) (errors : List WeylError) (choices : List ℕ) (st : State) (from k next : ℕ) → from ≤ k → k ≤ next
    → direct_to d n ops errors choices k next (direct_to d n ops errors choices from k st) ≡ direct_to d n ops errors choices from next st
goes-along = along
