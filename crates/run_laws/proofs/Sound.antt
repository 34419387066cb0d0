-- Validity is kept by every step of the direct run, and of the frame run's rows.
-- Assumes nothing.
use mathlib.Core.Path.{◌≡◌, refl, ap}
use mathlib.Core.Bool.{Bool, true, false, cond}
use mathlib.Core.List.{List}
use Prim.Native.Nat.{ℕ, zero, suc, ◌+◌, ◌≤◌, ◌<◌}
use native.Mathlib.Nat.{le_refl}
use native.Mathlib.Omega.{arith}
use lib.Dec.{eqb}
use lib.ListN.{length}
use Rattle.modular.specs.Dimension.{Dimension}
use Rattle.operation.specs.declared.Operation.{Operation}
use Rattle.operation.specs.declared.WeylError.{WeylError}
use Rattle.operation.specs.Error.{error_rows, minus_x}
use Rattle.circuit.specs.Circuit.{op_at, err_at, Kind, gate, measures, resets, corrects, kind, measured, choice_kind, chosen, Accepted}
use Rattle.validity.specs.Validity.{Valid}
use Rattle.measurement.specs.declared.Look.{Look}
use Rattle.measurement.specs.declared.Look.TheVariants.{Free, Certain}
use Rattle.measurement.specs.Look.{look}
use Rattle.validity_laws.proofs.Keeping.{gate-keeps-valid, error-keeps-valid}
use Rattle.measurement_laws.proofs.Free.{collapse-keeps-valid}
use Rattle.runs.specs.Run.{steps_from}
use Rattle.runs.specs.Direct.{State, errors_on_rows, direct_look, reset_rows, direct_kind, direct_errors, direct_step, direct_run}
use Rattle.runs.specs.Frame.{FrameState, frame_look, frame_kind, frame_errors, frame_step, frame_steps}
use Rattle.run_laws.specs.Carrying.{StepKeepsValid, RunKeepsValid}
use Rattle.operation.proofs.Error.{minus-allowed}
use Rattle.run_laws.proofs.Books.{qudit_in, reset_in, target_in, choice_in}

module _ (d n : ℕ) (dim : Dimension d) (ops : List Operation) (errors : List WeylError) (choices : List ℕ) (ac : Accepted d n ops errors choices) where
  errors-valid : (k : ℕ) (t : List ℕ) → Valid d n t → (j : ℕ) → j ≤ length errors → Valid d n (errors_on_rows d n errors k t j)
  unfolding errors_on_rows
  errors-valid k t ok zero l = ok
  errors-valid k t ok (suc j) l = by (eqb (err_at errors j).place k) (errors-valid k t ok j (omega arith))
    where
      u : List ℕ
      u = errors_on_rows d n errors k t j

      by : (b : Bool) → Valid d n u → Valid d n (cond b (error_rows d n (err_at errors j) u) u)
      by true v = error-keeps-valid d n dim (err_at errors j) (ac.errors-in-order.each j (omega arith)) u v
      by false v = v

  -- X to the minus any outcome, on a qudit
  pub minus-valid : (q r : ℕ) → q < n → (t : List ℕ) → Valid d n t → Valid d n (error_rows d n (minus_x d q r) t)
  minus-valid q r l t ok = error-keeps-valid d n dim (minus_x d q r) (minus-allowed d n q r (omega (arith, dim.low)) l) t ok

  pub reset-valid : (k q : ℕ) → k < length ops → kind (op_at ops k) ≡ resets q → (t : List ℕ) → Valid d n t
      → Valid d n (reset_rows d n choices (chosen ops k) q t (look d n t q))
  unfolding reset_rows
  reset-valid k q l e t ok = by (look d n t q) refl
    where
      lq : q < n
      lq = reset_in ac k q l e

      by : (x : Look) → look d n t q ≡ x → Valid d n (reset_rows d n choices (chosen ops k) q t x)
      by (Free i) x = minus-valid q _ lq _ (collapse-keeps-valid d n dim t ok q i _ lq (choice_in ac k l (ap choice_kind e)) x)
      by (Certain outcome) x = minus-valid q outcome lq t ok

  kind-valid : (k : ℕ) → k < length ops → (st : State) → Valid d n st.rows → (x : Kind) → kind (op_at ops k) ≡ x
      → Valid d n (direct_kind d n choices (chosen ops k) (measured ops k) st (op_at ops k) x).rows
  unfolding direct_kind direct_look
  kind-valid k l st ok gate e = gate-keeps-valid d n dim (op_at ops k) (ac.operations k l) st.rows ok
  kind-valid k l st ok (measures q) e = by (look d n st.rows q) refl
    where
      by : (x : Look) → look d n st.rows q ≡ x → Valid d n (direct_look d n choices (chosen ops k) (measured ops k) q st x).rows
      by (Free i) x = collapse-keeps-valid d n dim st.rows ok q i _ (qudit_in ac k q l e) (choice_in ac k l (ap choice_kind e)) x
      by (Certain outcome) x = ok
  kind-valid k l st ok (resets q) e = reset-valid k q l e st.rows ok
  kind-valid k l st ok (corrects t m) e = minus-valid t _ (target_in ac k t m l e) st.rows ok

  pub place-valid : (k : ℕ) (st : State) → Valid d n st.rows → Valid d n (direct_errors d n ops errors choices k st).rows
  unfolding direct_errors
  place-valid k st ok = errors-valid k st.rows ok (length errors) (le_refl (length errors))

  step-valid : (k : ℕ) → k < length ops → (st : State) → Valid d n st.rows → Valid d n (direct_step d n ops errors choices k st).rows
  unfolding direct_step
  step-valid k l st ok = kind-valid k l (direct_errors d n ops errors choices k st) (place-valid k st ok) (kind (op_at ops k)) refl

  steps_valid : (st : State) → Valid d n st.rows → (count : ℕ) → count ≤ length ops → Valid d n (steps_from (direct_step d n ops errors choices) 0 st count).rows
  unfolding steps_from
  steps_valid st ok zero l = ok
  steps_valid st ok (suc m) l = step-valid (0 + m) (omega arith) _ (steps_valid st ok m (omega arith))

  run_valid : (st : State) → Valid d n st.rows → Valid d n (direct_run d n ops errors choices st).rows
  unfolding direct_run
  run_valid st ok = place-valid (length ops) _ (steps_valid st ok (length ops) (le_refl (length ops)))

  -- the rows of the frame run, whatever the frame is
  frame-kind-valid : (k : ℕ) → k < length ops → (st : FrameState) → Valid d n st.rows → (x : Kind) → kind (op_at ops k) ≡ x
      → Valid d n (frame_kind d n choices (chosen ops k) (measured ops k) st (op_at ops k) x).rows
  unfolding frame_kind frame_look
  frame-kind-valid k l st ok gate e = gate-keeps-valid d n dim (op_at ops k) (ac.operations k l) st.rows ok
  frame-kind-valid k l st ok (measures q) e = by (look d n st.rows q) refl
    where
      by : (x : Look) → look d n st.rows q ≡ x → Valid d n (frame_look d n choices (chosen ops k) (measured ops k) q st x).rows
      by (Free i) x = collapse-keeps-valid d n dim st.rows ok q i _ (qudit_in ac k q l e) (choice_in ac k l (ap choice_kind e)) x
      by (Certain outcome) x = ok
  frame-kind-valid k l st ok (resets q) e = reset-valid k q l e st.rows ok
  frame-kind-valid k l st ok (corrects t m) e = minus-valid t _ (target_in ac k t m l e) st.rows ok

  frame_steps-valid : (st : FrameState) → Valid d n st.rows → (count : ℕ) → count ≤ length ops → Valid d n (steps_from (frame_step d n ops errors choices) 0 st count).rows
  unfolding steps_from frame_step frame_errors
  frame_steps-valid st ok zero l = ok
  frame_steps-valid st ok (suc m) l = frame-kind-valid (0 + m) (omega arith) _ (frame_steps-valid st ok m (omega arith)) (kind (op_at ops (0 + m))) refl

  pub frame-rows-valid : (st : FrameState) → Valid d n st.rows → Valid d n (frame_steps d n ops errors choices st).rows
  unfolding frame_steps frame_errors
  frame-rows-valid st ok = frame_steps-valid st ok (length ops) (le_refl (length ops))

pub step-keeps-valid : StepKeepsValid
step-keeps-valid = step-valid

pub run_keeps-valid : RunKeepsValid
run_keeps-valid = run_valid
