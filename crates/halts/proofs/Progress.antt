-- A run on its way from a number: where it stands, and its state so far.
-- Assumes nothing.
use mathlib.Core.Path.{◌≡◌, sym, ap, ◌∙◌}
use mathlib.Core.List.{List}
use Prim.Native.Nat.{ℕ, suc, ◌+◌, ◌-◌, ◌<◌, ◌≤◌}
use native.Mathlib.Nat.{le_refl}
use native.Mathlib.Omega.{arith}
use lib.ListN.{length}
use Rattle.operation.specs.declared.Operation.{Operation}
use Rattle.operation.specs.declared.WeylError.{WeylError}
use Rattle.circuit.specs.Circuit.{chosen}
use Rattle.runs.specs.declared.Position.{Position}
use Rattle.runs.specs.Reached.{AtStep}
use Rattle.runs.specs.Run.{steps_from}
use Rattle.runs.specs.Direct.{State, state_of, errors_on_rows, direct_errors, direct_step}
use Rattle.halts.specs.Halt.{direct_stage, direct_to}
use Rattle.halts.proofs.Stages.{stage-step, stage-last}

module _ (d n : ℕ) (ops : List Operation) (errors : List WeylError) (choices : List ℕ) (from : ℕ) (first : State) where
  abbrev stage : ℕ → State → State
  stage = direct_stage d n ops errors choices

  -- what the stages from `from` on, up to number k, have made
  abbrev up_to : ℕ → State
  up_to k = direct_to d n ops errors choices from k first

  pub record Going (k : ℕ) (at : Position) (state : State) : Type 0 where
    pub since : from ≤ k
    pub at-step : AtStep ops errors k at
    pub taken : at.choices ≡ chosen ops k
    pub so_far : state ≡ up_to k

  none : up_to from ≡ first
  unfolding direct_to steps_from
  none = let q : from - from ≡ 0 = omega arith in rw q

  more : (k : ℕ) → from ≤ k → up_to (k + 1) ≡ stage k (up_to k)
  unfolding direct_to steps_from
  more k l =
      let q : k + 1 - from ≡ suc (k - from) = omega arith in
      let p : from + (k - from) ≡ k = omega arith in
      rw q (ap (λ (i : ℕ). stage i (up_to k)) p)

  pub going_start : {at : Position} → AtStep ops errors from at → at.choices ≡ chosen ops from → Going from at first
  going_start s c = record { since = le_refl from; at-step = s; taken = c; so_far = sym none }

  pub going_more : {k : ℕ} {at next : Position} {state after : State} → Going k at state → k < length ops
      → after ≡ direct_step d n ops errors choices k state
      → AtStep ops errors (k + 1) next
      → next.choices ≡ chosen ops (k + 1)
      → Going (k + 1) next after
  going_more {k} g l e s c =
      let h = g.since in
      record {
        since = omega arith;
        at-step = s;
        taken = c;
        so_far = e ∙ sym (stage-step d n ops errors choices k _ l) ∙ ap (stage k) g.so_far ∙ sym (more k h);
      }

  pub going-all : {k : ℕ} {at : Position} {state : State} → Going k at state → k ≡ length ops → Going (length ops) at state
  going-all g e = rw (← e) g

  -- after the last operation, the errors after all of them
  pub going-last : {at : Position} {t results after-errors : List ℕ} → Going (length ops) at (state_of t results)
      → after-errors ≡ errors_on_rows d n errors (length ops) t (length errors)
      → state_of after-errors results ≡ up_to (length ops + 1)
  unfolding direct_errors
  going-last {at} {t} {results} g e =
      ap (λ (rows : List ℕ). state_of rows results) e
      ∙ sym (stage-last d n ops errors choices (state_of t results))
      ∙ ap (stage (length ops)) g.so_far
      ∙ sym (more (length ops) g.since)
