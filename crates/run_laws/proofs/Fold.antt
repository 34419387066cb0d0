-- At every step the direct run's rows are the frame run's rows, shifted by the frame. So both end alike.
-- Assumes nothing.
use mathlib.Core.Path.{◌≡◌, refl, ap, ◌∙◌}
use mathlib.Core.Bool.{true}
use mathlib.Core.List.{List}
use Prim.Native.Nat.{ℕ, zero, suc, ◌+◌, ◌*◌, ◌%◌, ◌≤◌, ◌<◌}
use native.Mathlib.Nat.{le_refl}
use native.Mathlib.Omega.{arith}
use lib.ListN.{length, get_or}
use Rattle.modular.specs.Dimension.{Dimension}
use Rattle.row.specs.Row.{x_of}
use Rattle.operation.specs.declared.Operation.{Operation}
use Rattle.operation.specs.declared.WeylError.{WeylError}
use Rattle.operation.specs.Operation.{allowed}
use Rattle.circuit.specs.Circuit.{op_at, Kind, gate, measures, resets, corrects, kind, measured, choice_kind, chosen, Accepted}
use Rattle.validity.specs.Validity.{Valid}
use Rattle.validity.proofs.Exactly.{valid-tableau}
use Rattle.measurement.specs.declared.Look.{Look}
use Rattle.measurement.specs.Look.{look}
use Rattle.validity_laws.proofs.Keeping.{gate-keeps-valid}
use Rattle.measurement_laws.proofs.Free.{collapse-keeps-valid}
use Rattle.runs.specs.Run.{steps_from}
use Rattle.runs.specs.Direct.{State, state_of, direct_look, reset_rows, direct_kind, direct_errors, direct_step, direct_run}
use Rattle.runs.specs.Frame.{Frame, FrameState, FrameEnd, reset_frame, shift_rows, frame_look, frame_kind, frame_errors, frame_step, frame_steps, frame_leaves, frame_run_from}
use Rattle.runs.specs.Raised.{Carry, carrying, carry_by, frame_before, carry_before, carried, carried_frame, final_frame, raised}
use Rattle.runs.proofs.Frames.{carry_frame, errors-on-frame}
use Rattle.runs.proofs.Shifts.{power_taken, before, raises-at, raised_at}
use Rattle.run_laws.specs.Carrying.{RunsAgreeFrom}
use Rattle.run_laws.proofs.Rows.{shifted-gate, shifted-errors, shifted-collapse}
use Rattle.run_laws.proofs.Looks.{Both, free, certain, both}
use Rattle.run_laws.proofs.Corrections.{reset-rows, correct_rows}
use Rattle.run_laws.proofs.Books.{qudit_in, reset_in, target_in, choice_in, has_choice}
use Rattle.run_laws.proofs.Sound.{minus-valid, reset-valid}

-- rows and results of a frame run that has ended
abbrev ended : FrameEnd → State
ended end = state_of end.rows end.results

-- both runs, with what is carried
pub data ShiftedState (d n : ℕ) : Carry → State → FrameState → Type 0 where
  shifted_state : {C : Carry} (t results : List ℕ) → Frame d n C.frame → Valid d n t
      → ShiftedState d n C (record { rows = shift_rows d n C.frame t; results = results })
      (record { rows = t; results = results; frame = C.frame; shifts = C.shifts })

module _ (d n : ℕ) (dim : Dimension d) (ops : List Operation) (errors : List WeylError) (choices second : List ℕ) (ac : Accepted d n ops errors choices) where
  positive : 0 < d
  positive = omega (arith, dim.low)

  -- The direct run's choice for operation k is the frame run's, raised by the frame F.
  abbrev Raises : ℕ → List ℕ → Type 0
  Raises k F =
      choice_kind (kind (op_at ops k)) ≡ 1 → get_or second (chosen ops k) 0 ≡ (get_or choices (chosen ops k) 0 + power_taken (kind (op_at ops k)) F) % d

  kind-alike : (k : ℕ) → k < length ops → (C : Carry) (t results : List ℕ) → Frame d n C.frame → Valid d n t → Raises k C.frame → (x : Kind) → kind (op_at ops k) ≡ x
      → ShiftedState d n (carry_by d n ops errors k x C)
      (direct_kind d n second (chosen ops k) (measured ops k) (record { rows = shift_rows d n C.frame t; results = results }) (op_at ops k) x)
      (frame_kind d n choices (chosen ops k) (measured ops k) (record { rows = t; results = results; frame = C.frame; shifts = C.shifts }) (op_at ops k) x)
  unfolding direct_kind frame_kind direct_look frame_look reset_rows carry_by
  kind-alike k l C t results f ok up gate e =
      rw (shifted-gate d n dim C.frame t f.powers (valid-tableau d n t ok) (op_at ops k) (ac.operations k l))
      (shifted_state _ results (carry_frame d n positive ops errors k C (ac.operations k l) f gate) (gate-keeps-valid d n dim (op_at ops k) (ac.operations k l) t ok))
  kind-alike k l C t results f ok up (measures q) e = by (look d n t q) (look d n (shift_rows d n F t) q) (both d n dim t ok F q lq)
    where
      F : List ℕ
      F = C.frame

      lq : q < n
      lq = qudit_in ac k q l e

      c : ℕ
      c = chosen ops k

      more : get_or second c 0 ≡ (get_or choices c 0 + x_of F q) % d
      more = up (ap choice_kind e) ∙ ap (λ (x : Kind). (get_or choices c 0 + power_taken x F) % d) e

      by : (a b : Look) → Both d n t q F a b
          → ShiftedState d n (carry_by d n ops errors k (measures q) C) (direct_look d n second c (measured ops k) q (record { rows = shift_rows d n F t; results = results }) b)
          (frame_look d n choices c (measured ops k) q (record { rows = t; results = results; frame = F; shifts = C.shifts }) a)
      by a b (free i li y) =
          rw (more, shifted-collapse d n q i (get_or choices c 0) (omega (arith, dim.low)) lq F t (valid-tableau d n t ok) li)
          (shifted_state _ _ f (collapse-keeps-valid d n dim t ok q i _ lq (choice_in ac k l (ap choice_kind e)) y))
      by a b (certain outcome) = shifted_state t _ f ok
  kind-alike k l C t results f ok up (resets q) e =
      rw (by (look d n t q) (look d n (shift_rows d n F t) q) (both d n dim t ok F q lq))
      (shifted_state _ results (carry_frame d n positive ops errors k C (ac.operations k l) f (resets q)) (reset-valid d n dim ops errors choices ac k q l e t ok))
    where
      F : List ℕ
      F = C.frame

      lq : q < n
      lq = reset_in ac k q l e

      c : ℕ
      c = chosen ops k

      more : get_or second c 0 ≡ (get_or choices c 0 + x_of F q) % d
      more = up (ap choice_kind e) ∙ ap (λ (x : Kind). (get_or choices c 0 + power_taken x F) % d) e

      by : (a b : Look) → Both d n t q F a b → reset_rows d n second c q (shift_rows d n F t) b ≡ shift_rows d n (reset_frame q F) (reset_rows d n choices c q t a)
      by a b (free i li y) =
          rw (more, shifted-collapse d n q i (get_or choices c 0) (omega (arith, dim.low)) lq F t (valid-tableau d n t ok) li)
          (reset-rows d n q (get_or choices c 0) dim lq F _ f.powers
          (valid-tableau d n _ (collapse-keeps-valid d n dim t ok q i _ lq (choice_in ac k l (ap choice_kind e)) y)))
      by a b (certain outcome) = reset-rows d n q outcome dim lq F t f.powers (valid-tableau d n t ok)
  kind-alike k l C t results f ok up (corrects q m) e =
      let lq = target_in ac k q m l e in
      rw (correct_rows d n q (get_or results (2 * m) 0) (get_or C.shifts m 0) dim lq C.frame t f.powers (valid-tableau d n t ok))
      (shifted_state _ results (carry_frame d n positive ops errors k C (ac.operations k l) f (corrects q m)) (minus-valid d n dim ops errors choices ac q _ lq t ok))

  step-alike : (k : ℕ) → k < length ops → {C : Carry} {A : State} {B : FrameState} → Raises k (frame_before d n ops errors k C.frame) → ShiftedState d n C A B
      → ShiftedState d n (carry_by d n ops errors k (kind (op_at ops k)) (carry_before d n ops errors k C))
      (direct_step d n ops errors second k A)
      (frame_step d n ops errors choices k B)
  unfolding direct_step frame_step direct_errors frame_errors frame_before
  step-alike k l {C} up (shifted_state t results f ok) =
      rw (shifted-errors d n dim errors ac.errors-in-order.each k C.frame t f (valid-tableau d n t ok) (length errors) (le_refl (length errors)))
      (kind-alike k l _ t results (errors-on-frame d n positive errors k C.frame f (length errors)) ok up (kind (op_at ops k)) refl)

  -- from any operation, and any frame
  pub steps_alike : (from : ℕ) (C : Carry) (t results : List ℕ) → Frame d n C.frame → Valid d n t → (count : ℕ) → from + count ≤ length ops
      → ((i : ℕ) → i < count → Raises (from + i) (before d n ops errors from C i))
      → ShiftedState d n (carried d n ops errors from C count)
      (steps_from (direct_step d n ops errors second) from (record { rows = shift_rows d n C.frame t; results = results }) count)
      (steps_from (frame_step d n ops errors choices) from (record { rows = t; results = results; frame = C.frame; shifts = C.shifts }) count)
  unfolding steps_from carried
  steps_alike from C t results f ok zero l up = shifted_state t results f ok
  steps_alike from C t results f ok (suc m) l up =
      step-alike (from + m) (omega arith) (up m (omega arith))
      (steps_alike from C t results f ok m (omega arith) (λ i k. up i (omega arith)))

  -- the errors after all operations
  end_same : (shifts frame : List ℕ) {C : Carry} {A : State} {B : FrameState} → ShiftedState d n C A B
      → direct_errors d n ops errors second (length ops) A
      ≡ ended (frame_leaves d n ops errors choices shifts frame (frame_errors d n ops errors choices (length ops) B))
  unfolding frame_leaves direct_errors frame_errors
  end_same shifts frame {C} (shifted_state t results f ok) =
      rw (shifted-errors d n dim errors ac.errors-in-order.each (length ops) C.frame t f (valid-tableau d n t ok) (length errors) (le_refl (length errors)))

-- A frame carried over allowed operations, and to the end, stays a frame.
module _ (d n : ℕ) (low : 0 < d) (ops : List Operation) (errors : List WeylError) (good : (k : ℕ) → k < length ops → allowed d n (op_at ops k) ≡ true) (F : List ℕ)
    (f : Frame d n F) where
  pub carried-frame : (count : ℕ) → count ≤ length ops → Frame d n (carried_frame d n ops errors F count)
  unfolding carried frame_before
  carried-frame zero l = f
  carried-frame (suc m) l =
      carry_frame d n low ops errors (0 + m) _ (good (0 + m) (omega arith))
      (errors-on-frame d n low errors (0 + m) _ (carried-frame m (omega arith)) (length errors))
      (kind (op_at ops (0 + m)))

  pub final_frame_lem : Frame d n (final_frame d n ops errors F)
  unfolding frame_before
  final_frame_lem = errors-on-frame d n low errors (length ops) _ (carried-frame (length ops) (le_refl (length ops))) (length errors)

-- The raised choices are so.
raises : {d n : ℕ} {ops : List Operation} {errors : List WeylError} {choices : List ℕ} → (dim : Dimension d) (ac : Accepted d n ops errors choices) (F : List ℕ) (i : ℕ)
    → i < length ops
    → Raises d n dim ops errors choices (raised d n ops errors F choices) ac (0 + i) (before d n ops errors 0 (carrying F) i)
unfolding chosen
raises {d} {n} {ops} {errors} {choices} dim ac F i l e =
    let j = chosen ops (0 + i) in
    raised_at d n ops errors F choices j (has_choice ac (0 + i) (omega arith) e)
    ∙ ap (λ (x : ℕ). (get_or choices j 0 + x) % d) (raises-at d n ops errors 0 (carrying F) (length ops) i j l e (omega arith))

-- Rows and results are the very same, bytes past the needed ones included.
pub runs_same : (d n : ℕ) → Dimension d → (ops : List Operation) (errors : List WeylError) (choices F : List ℕ) → Accepted d n ops errors choices → Frame d n F
    → (t results shifts frame : List ℕ) → Valid d n t
    → direct_run d n ops errors (raised d n ops errors F choices) (state_of (shift_rows d n F t) results)
    ≡ ended (frame_run_from d n ops errors choices F (state_of t results) shifts frame)
unfolding direct_run frame_run_from frame_steps
runs_same d n dim ops errors choices F ac f t results shifts frame ok =
    let second = raised d n ops errors F choices in
    end_same d n dim ops errors choices second ac shifts frame
    (steps_alike d n dim ops errors choices second ac 0 (carrying F) t results f ok (length ops) (omega arith) (raises dim ac F))

pub runs_agree-from : RunsAgreeFrom
runs_agree-from d n dim ops errors choices F ac powers len t results shifts frame ok =
    rw (runs_same d n dim ops errors choices F ac (record { powers = powers; len = len }) t results shifts frame ok)
    (record { tableau = λ i l. refl; results = λ i l. refl })
