-- Measurements are numbered in order, and each writes two bytes of its own; the results keep their length. The worked runs are named so
-- that they are checked first: a definition that is wrong fails in a run before it fails in a law.
-- Assumes nothing.
use mathlib.Core.Path.{◌≡◌, refl, ap, ◌∙◌}
use mathlib.Core.Logic.{◌≢◌}
use mathlib.Core.List.{List}
use Prim.Native.Nat.{ℕ, zero, suc, ◌+◌, ◌*◌, ◌≤◌, ◌<◌}
use native.Mathlib.Numerals.{add-one}
use native.Mathlib.Decide.{ℕ_discrete}
use native.Mathlib.Omega.{arith}
use lib.ListN.{length, get_or, set, length-set}
use lib.Seq.{get_or-set_same, get_or-set_other}
use Rattle.operation.specs.declared.Operation.{Operation}
use Rattle.operation.specs.declared.Operation.TheVariants.{Fourier, PhaseGate, Sum, Cz, Swap, Multiplier, Measure, Reset, Correct}
use Rattle.operation.specs.declared.WeylError.{WeylError}
use Rattle.circuit.specs.Circuit.{op_at, Kind, gate, measures, resets, corrects, kind, tally_kind, tally, measured, choice_kind, choice_tally, chosen}
use Rattle.measurement.specs.declared.Look.{Look}
use Rattle.measurement.specs.declared.Look.TheVariants.{Free, Certain}
use Rattle.measurement.specs.Look.{look}
use Rattle.runs.specs.Run.{steps_from, with_result}
use Rattle.runs.specs.Frame.{FrameState, frame_look, frame_kind, frame_errors, frame_step, frame_steps, frame_leaves, frame_run_from, frame_run}
use Rattle.runs.specs.Direct.{State, direct_look, direct_kind, direct_errors, direct_step, direct_run}

pub is_measure : (op : Operation) (q : ℕ) → kind op ≡ measures q → op ≡ Measure q
is_measure (Fourier c k) q e = cc
is_measure (PhaseGate c k) q e = cc
is_measure (Sum c t k) q e = cc
is_measure (Cz c t k) q e = cc
is_measure (Swap c t) q e = cc
is_measure (Multiplier c u) q e = cc
is_measure (Measure c) q e = cc
is_measure (Reset c) q e = cc
is_measure (Correct t m) q e = cc

pub is-reset : (op : Operation) (q : ℕ) → kind op ≡ resets q → op ≡ Reset q
is-reset (Fourier c k) q e = cc
is-reset (PhaseGate c k) q e = cc
is-reset (Sum c t k) q e = cc
is-reset (Cz c t k) q e = cc
is-reset (Swap c t) q e = cc
is-reset (Multiplier c u) q e = cc
is-reset (Measure c) q e = cc
is-reset (Reset c) q e = cc
is-reset (Correct t m) q e = cc

pub is_correct : (op : Operation) (q j : ℕ) → kind op ≡ corrects q j → op ≡ Correct q j
is_correct (Fourier c k) q j e = cc
is_correct (PhaseGate c k) q j e = cc
is_correct (Sum c t k) q j e = cc
is_correct (Cz c t k) q j e = cc
is_correct (Swap c t) q j e = cc
is_correct (Multiplier c u) q j e = cc
is_correct (Measure c) q j e = cc
is_correct (Reset c) q j e = cc
is_correct (Correct t m) q j e = cc

-- What is counted over the operations never falls.
module _ (count f : ℕ → ℕ) (next : (k : ℕ) → count (suc k) ≡ count k + f k) where
  counted-more : (j k : ℕ) → j ≤ k → count j ≤ count k
  counted-more j zero l =
      let q : j ≡ 0 = omega arith in
      omega (arith, ap count q)
  counted-more j (suc k) l = by (ℕ_discrete j (suc k)) (counted-more j k)
    where
      by : Dec (j ≡ suc k) → (j ≤ k → count j ≤ count k) → count j ≤ count (suc k)
      by (yes q) ih = omega (arith, ap count q)
      by (no q) ih = omega (arith, ih (omega arith), next k)

module _ (ops : List Operation) where
  pub measured-more : (j k : ℕ) → j ≤ k → measured ops j ≤ measured ops k
  unfolding measured
  measured-more = counted-more (measured ops) (λ k. tally (op_at ops k)) (λ k. refl)

  chosen_more : (j k : ℕ) → j ≤ k → chosen ops j ≤ chosen ops k
  unfolding chosen
  chosen_more = counted-more (chosen ops) (λ k. choice_tally (op_at ops k)) (λ k. refl)

  -- operation k is counted if it is a measurement, and is one of them all
  pub measured-step : (k : ℕ) → measured ops (k + 1) ≡ measured ops k + tally (op_at ops k)
  unfolding measured
  measured-step k = rw (add-one k)

  pub chosen-step : (k : ℕ) → chosen ops (k + 1) ≡ chosen ops k + choice_tally (op_at ops k)
  unfolding chosen
  chosen-step k = rw (add-one k)

  -- the choice of an operation that takes one comes before those of later operations
  pub chosen-before : (i k : ℕ) → i < k → choice_tally (op_at ops i) ≡ 1 → chosen ops i < chosen ops k
  chosen-before i k l e = omega (arith, chosen-step i, chosen_more (i + 1) k (omega arith), e)

  pub measured_in : (k : ℕ) → k < length ops → measured ops k + tally (op_at ops k) ≤ measured ops (length ops)
  measured_in k l = omega (arith, measured-step k, measured-more (k + 1) (length ops) (omega arith))

  pub chosen_in : (k : ℕ) → k < length ops → chosen ops k + choice_tally (op_at ops k) ≤ chosen ops (length ops)
  chosen_in k l = omega (arith, chosen-step k, chosen_more (k + 1) (length ops) (omega arith))

  -- an operation takes at most one choice
  pub chosen-most : (k : ℕ) → chosen ops k ≤ k
  unfolding chosen
  chosen-most zero = omega arith
  chosen-most (suc k) = omega (arith, chosen-most k, by (kind (op_at ops k)))
    where
      by : (x : Kind) → choice_kind x ≤ 1
      by gate = omega arith
      by (measures q) = omega arith
      by (resets q) = omega arith
      by (corrects t m) = omega arith

  -- each measurement takes a choice
  pub measured-chosen : (k : ℕ) → measured ops k ≤ chosen ops k
  unfolding measured chosen
  measured-chosen zero = omega arith
  measured-chosen (suc k) = omega (arith, measured-chosen k, by (kind (op_at ops k)))
    where
      by : (x : Kind) → tally_kind x ≤ choice_kind x
      by gate = omega arith
      by (measures q) = omega arith
      by (resets q) = omega arith
      by (corrects t m) = omega arith

  pub measured-next : (k q : ℕ) → kind (op_at ops k) ≡ measures q → measured ops (suc k) ≡ measured ops k + 1
  unfolding measured
  measured-next k q e = ap (λ (x : Kind). measured ops k + tally_kind x) e

  -- an earlier measurement has a lower number
  pub measured-before : (i k q : ℕ) → i < k → kind (op_at ops i) ≡ measures q → measured ops i < measured ops k
  measured-before i k q l e = omega (arith, measured-next i q e, measured-more (suc i) k l)

module _ (results : List ℕ) (j outcome mark : ℕ) where
  pub result_length : length (with_result results j outcome mark) ≡ length results
  unfolding with_result
  result_length = simp length-set

  pub result_outcome : 2 * j + 1 < length results → get_or (with_result results j outcome mark) (2 * j) 0 ≡ outcome
  unfolding with_result
  result_outcome l =
      get_or-set_other (set results (2 * j) outcome) (2 * j + 1) (2 * j) mark 0 (λ e. omega arith)
      ∙ get_or-set_same results (2 * j) outcome 0 (omega arith)

  pub result_mark : 2 * j + 1 < length results → get_or (with_result results j outcome mark) (2 * j + 1) 0 ≡ mark
  unfolding with_result
  result_mark l = get_or-set_same (set results (2 * j) outcome) (2 * j + 1) mark 0 (simp length-set (omega arith))

  pub result_other : (i : ℕ) → i ≢ 2 * j → i ≢ 2 * j + 1 → get_or (with_result results j outcome mark) i 0 ≡ get_or results i 0
  unfolding with_result
  result_other i x y =
      get_or-set_other (set results (2 * j) outcome) (2 * j + 1) i mark 0 y ∙ get_or-set_other results (2 * j) i outcome 0 x

module _ (d n : ℕ) (ops : List Operation) (errors : List WeylError) (choices : List ℕ) where
  direct-look : (c j q : ℕ) (st : State) (x : Look) → length (direct_look d n choices c j q st x).results ≡ length st.results
  unfolding direct_look
  direct-look c j q st (Free k) = result_length st.results j _ _
  direct-look c j q st (Certain outcome) = result_length st.results j _ _

  direct-kind : (c j : ℕ) (st : State) (op : Operation) (x : Kind) → length (direct_kind d n choices c j st op x).results ≡ length st.results
  unfolding direct_kind
  direct-kind c j st op gate = refl
  direct-kind c j st op (measures q) = direct-look c j q st (look d n st.rows q)
  direct-kind c j st op (resets q) = refl
  direct-kind c j st op (corrects t m) = refl

  pub step_results : (k : ℕ) (st : State) → length (direct_step d n ops errors choices k st).results ≡ length st.results
  unfolding direct_step direct_errors
  step_results k st = direct-kind (chosen ops k) (measured ops k) _ (op_at ops k) (kind (op_at ops k))

  pub steps_results : (st : State) (count : ℕ) → length (steps_from (direct_step d n ops errors choices) 0 st count).results ≡ length st.results
  unfolding steps_from
  steps_results st zero = refl
  steps_results st (suc count) = step_results (0 + count) _ ∙ steps_results st count

  pub direct-results : (st : State) → length (direct_run d n ops errors choices st).results ≡ length st.results
  unfolding direct_run direct_errors
  direct-results st = steps_results st (length ops)

  -- and so does the frame run
  frame-look : (c j q : ℕ) (st : FrameState) (x : Look) → length (frame_look d n choices c j q st x).results ≡ length st.results
  unfolding frame_look
  frame-look c j q st (Free k) = result_length st.results j _ _
  frame-look c j q st (Certain outcome) = result_length st.results j _ _

  frame-kind : (c j : ℕ) (st : FrameState) (op : Operation) (x : Kind) → length (frame_kind d n choices c j st op x).results ≡ length st.results
  unfolding frame_kind
  frame-kind c j st op gate = refl
  frame-kind c j st op (measures q) = frame-look c j q st (look d n st.rows q)
  frame-kind c j st op (resets q) = refl
  frame-kind c j st op (corrects t m) = refl

  frame_steps_lem : (st : FrameState) (count : ℕ) → length (steps_from (frame_step d n ops errors choices) 0 st count).results ≡ length st.results
  unfolding steps_from frame_step frame_errors
  frame_steps_lem st zero = refl
  frame_steps_lem st (suc count) = frame-kind (chosen ops (0 + count)) (measured ops (0 + count)) _ (op_at ops (0 + count)) (kind (op_at ops (0 + count))) ∙ frame_steps_lem st count

  pub frame-results : (st : State) (shifts frame : List ℕ) → length (frame_run d n ops errors choices st shifts frame).results ≡ length st.results
  unfolding frame_run frame_run_from frame_leaves frame_steps frame_errors
  frame-results st shifts frame = frame_steps_lem _ (length ops)
