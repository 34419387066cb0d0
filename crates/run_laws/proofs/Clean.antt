-- The frame run is the clean run, without errors, with the carried frame added to rows and results. So it keeps validity as well,
-- and its verdict is clean exactly if both runs end with the same stabilizer set.
-- Assumes nothing.
use mathlib.Core.Path.{◌≡◌, refl, sym, ap, ◌∙◌}
use mathlib.Core.Bool.{Bool, true, false}
use mathlib.Core.List.{List, []}
use Prim.Native.Nat.{ℕ, zero, suc, ◌+◌, ◌*◌, ◌%◌, ◌≤◌, ◌<◌}
use native.Mathlib.Nat.{le_refl}
use native.Mathlib.Omega.{arith}
use lib.Dec.{ltb}
use lib.ListN.{length, get_or}
use borrow.Author.Tests.{ltb-true, ltb-false}
use Rattle.modular.specs.Dimension.{Dimension}
use Rattle.row.specs.Row.{x_of}
use Rattle.operation.specs.declared.Operation.{Operation}
use Rattle.operation.specs.declared.WeylError.{WeylError}
use Rattle.operation.specs.Error.{error_rows, minus_x}
use Rattle.circuit.specs.Circuit.{op_at, Kind, gate, measures, resets, corrects, kind, tally_kind, measured, chosen, Accepted}
use Rattle.validity.specs.Validity.{Valid}
use Rattle.measurement.specs.declared.Look.{Look}
use Rattle.measurement.specs.declared.Look.TheVariants.{Free, Certain}
use Rattle.measurement.specs.Look.{look}
use Rattle.runs.specs.Run.{steps_from, with_result, result_of}
use Rattle.runs.specs.Direct.{State, state_of, errors_on_rows, direct_look, direct_kind, direct_errors, direct_step, direct_run}
use Rattle.runs.specs.Frame.{Frame, FrameState, clean_result, shift_rows, verdict_of, frame_look, frame_kind, frame_errors, frame_step, frame_steps, frame_leaves, frame_run_from}
use Rattle.runs.specs.Raised.{Carry, carrying, carry_by, frame_before, carry_before, carried, final_frame, result_shifts, raised}
use Rattle.runs.specs.Carry.{with_shifts}
use Rattle.runs.proofs.Results.{measured-more, measured-before, steps_results}
use Rattle.runs.proofs.Shifts.{past_end, shifts-count, shift_known, shift_of}
use Rattle.runs.proofs.Carry.{with_none, with_outcome, with_later, with_result_lem}
use Rattle.run_laws.specs.Carrying.{FrameKeepsValid, FrameIsClean, CleanLists}
use Rattle.run_laws.proofs.Looks.{shift-keeps-valid}
use Rattle.run_laws.proofs.Books.{without_errors}
use Rattle.run_laws.proofs.Sound.{run_keeps-valid, frame-rows-valid}
use Rattle.run_laws.proofs.Corrections.{without_shift, without_none}
use Rattle.run_laws.proofs.Fold.{runs_same}
use Rattle.run_laws.proofs.Verdict.{clean-rows}

-- what a frame run carries
abbrev carry_of : FrameState → Carry
carry_of st = record { frame = st.frame; shifts = st.shifts }

-- the same rows, and the results of m measurements with their shifts
record Plus (d : ℕ) (shifts : List ℕ) (m : ℕ) (A : State) (B : FrameState) : Type 0 where
  rows : B.rows ≡ A.rows
  results : B.results ≡ with_shifts d shifts m A.results

module _ (d n : ℕ) (ops : List Operation) (errors : List WeylError) (choices F : List ℕ) (st : State) where
  abbrev total : ℕ
  total = measured ops (length ops)

  abbrev shifts : List ℕ
  shifts = result_shifts d n ops errors F

  -- what is carried to operation k, errors of place k not yet taken, and with them
  abbrev reached : ℕ → Carry
  reached k = carried d n ops errors 0 (carrying F) k

  abbrev after-errors : ℕ → Carry
  after-errors k = carry_before d n ops errors k (reached k)

  abbrev start : FrameState
  start = record { rows = st.rows; results = st.results; frame = F; shifts = [] }

  -- Frame and shifts are carried whatever the rows and results are.
  carries-kind : (k c j : ℕ) (B : FrameState) (x : Kind)
      → carry_of (frame_kind d n choices c j B (op_at ops k) x) ≡ carry_by d n ops errors k x (carry_of B)
  unfolding frame_kind frame_look carry_by
  carries-kind k c j B gate = refl
  carries-kind k c j B (measures q) = by (look d n B.rows q)
    where
      by : (x : Look) → carry_of (frame_look d n choices c j q B x) ≡ carry_by d n ops errors k (measures q) (carry_of B)
      by (Free i) = refl
      by (Certain outcome) = refl
  carries-kind k c j B (resets q) = refl
  carries-kind k c j B (corrects t m) = refl

  carries : (count : ℕ) → carry_of (steps_from (frame_step d n ops errors choices) 0 start count) ≡ reached count
  unfolding steps_from frame_step frame_errors frame_before carried
  carries zero = refl
  carries (suc m) =
      carries-kind (0 + m) _ _ _ (kind (op_at ops (0 + m)))
      ∙ ap (λ (C : Carry). carry_by d n ops errors (0 + m) (kind (op_at ops (0 + m))) (carry_before d n ops errors (0 + m) C)) (carries m)

  frame-all : (frame_steps d n ops errors choices start).frame ≡ final_frame d n ops errors F
  unfolding frame_steps frame_errors frame_before
  frame-all = ap (λ (C : Carry). (carry_before d n ops errors (length ops) C).frame) (carries (length ops))

  shifts-all : (frame_steps d n ops errors choices start).shifts ≡ shifts
  unfolding frame_steps frame_errors
  shifts-all = ap (λ (C : Carry). C.shifts) (carries (length ops))

  module _ (low : 0 < d) (room : 2 * total ≤ length st.results) where
    -- the clean result of measurement m, before operation k
    clean_result_lem : (k m : ℕ) → k < length ops → (out : List ℕ) → length out ≡ length st.results
        → clean_result d (with_shifts d shifts (measured ops k) out) (reached k).shifts m ≡ result_of d out m
    clean_result_lem k m l out size = by (ltb m (measured ops k)) refl
      where
        fits : 2 * measured ops k ≤ length out
        fits = omega (arith, room, size, measured-more ops k (length ops) (omega arith))

        by : (b : Bool) → ltb m (measured ops k) ≡ b
            → clean_result d (with_shifts d shifts (measured ops k) out) (reached k).shifts m ≡ result_of d out m
        by true e =
            let h = ltb-true m (measured ops k) e in
            rw (with_outcome d shifts (measured ops k) out fits m h, shift_known d n ops errors F k m (omega arith) h)
            (without_shift d (get_or out (2 * m) 0) (get_or shifts m 0) low)
        by false e =
            let h = ltb-false m (measured ops k) e in
            rw (with_later d shifts (measured ops k) out fits m h, past_end (reached k).shifts m (omega (arith, shifts-count d n ops errors F k)))
            (without_none d (get_or out (2 * m) 0) low)

    plus-kind : (k : ℕ) → k < length ops → (t out out' : List ℕ) → length out ≡ length st.results → out' ≡ with_shifts d shifts (measured ops k) out
        → (x : Kind) → kind (op_at ops k) ≡ x
        → Plus d shifts (measured ops k + tally_kind x)
        (direct_kind d n choices (chosen ops k) (measured ops k) (record { rows = t; results = out }) (op_at ops k) x)
        (frame_kind d n choices (chosen ops k) (measured ops k)
        (record { rows = t; results = out'; frame = (after-errors k).frame; shifts = (reached k).shifts })
        (op_at ops k) x)
    unfolding direct_kind frame_kind direct_look frame_look
    plus-kind k l t out out' size a gate e = let q : measured ops k + 0 ≡ measured ops k = omega arith in rw q (record { rows = refl; results = a })
    plus-kind k l t out out' size a (measures q) e = by (look d n t q)
      where
        j : ℕ
        j = measured ops k

        G : List ℕ
        G = (after-errors k).frame

        more : (x mark : ℕ) → with_result out' j ((x + x_of G q) % d) mark ≡ with_shifts d shifts (j + 1) (with_result out j x mark)
        more x mark =
            rw (a, ← shift_of d n ops errors F k q l e)
            (with_result_lem d shifts out j (omega (arith, room, size, measured-before ops k (length ops) q l e)) x mark)

        by : (x : Look) → Plus d shifts (j + 1) (direct_look d n choices (chosen ops k) j q (record { rows = t; results = out }) x)
            (frame_look d n choices (chosen ops k) j q (record { rows = t; results = out'; frame = G; shifts = (reached k).shifts }) x)
        by (Free i) = record { rows = refl; results = more (get_or choices (chosen ops k) 0) 1 }
        by (Certain outcome) = record { rows = refl; results = more outcome 0 }
    plus-kind k l t out out' size a (resets q) e = let z : measured ops k + 0 ≡ measured ops k = omega arith in rw z (record { rows = refl; results = a })
    plus-kind k l t out out' size a (corrects q m) e =
        let z : measured ops k + 0 ≡ measured ops k = omega arith in
        rw z
        (record {
          rows = ap (λ (r : ℕ). error_rows d n (minus_x d q r) t) (ap (λ (v : List ℕ). clean_result d v (reached k).shifts m) a ∙ clean_result_lem k m l out size);
          results = a;
        })

    plus_step : (k : ℕ) → k < length ops → (A : State) (B : FrameState) → length A.results ≡ length st.results → carry_of B ≡ reached k
        → Plus d shifts (measured ops k) A B
        → Plus d shifts (measured ops (suc k)) (direct_step d n ops [] choices k A) (frame_step d n ops errors choices k B)
    unfolding measured direct_step frame_step direct_errors frame_errors errors_on_rows frame_before
    plus_step k l A B size c a =
        rw (a.rows, ap (λ (C : Carry). C.frame) c, ap (λ (C : Carry). C.shifts) c)
        (plus-kind k l A.rows A.results B.results size a.results (kind (op_at ops k)) refl)

    plus_steps : (count : ℕ) → count ≤ length ops
        → Plus d shifts (measured ops count) (steps_from (direct_step d n ops [] choices) 0 st count) (steps_from (frame_step d n ops errors choices) 0 start count)
    unfolding steps_from measured
    plus_steps zero l = record { rows = refl; results = sym (with_none d shifts st.results) }
    plus_steps (suc m) l =
        let q : 0 + m ≡ m = omega arith in
        rw q (plus_step m l _ _ (steps_results d n ops [] choices st m) (carries m) (plus_steps m (omega arith)))

    plus-all : Plus d shifts total (direct_run d n ops [] choices st) (frame_steps d n ops errors choices start)
    unfolding direct_run frame_steps direct_errors frame_errors errors_on_rows
    plus-all = let a = plus_steps (length ops) (le_refl (length ops)) in record { rows = a.rows; results = a.results }

    rows-shifted : (shiftBuffer frame : List ℕ)
        → (frame_run_from d n ops errors choices F st shiftBuffer frame).rows
        ≡ shift_rows d n (final_frame d n ops errors F) (direct_run d n ops [] choices st).rows
    unfolding frame_run_from frame_leaves
    rows-shifted shiftBuffer frame = rw (plus-all.rows, frame-all)

    verdict-shifted : (shiftBuffer frame : List ℕ)
        → (frame_run_from d n ops errors choices F st shiftBuffer frame).verdict
        ≡ verdict_of d n (final_frame d n ops errors F) (direct_run d n ops [] choices st).rows
    unfolding frame_run_from frame_leaves
    verdict-shifted shiftBuffer frame = rw (plus-all.rows, frame-all)

  -- The verdict is that of the final frame on the last rows.
  pub verdict_of-frame : (shiftBuffer frame : List ℕ)
      → (frame_run_from d n ops errors choices F st shiftBuffer frame).verdict
      ≡ verdict_of d n (final_frame d n ops errors F) (frame_steps d n ops errors choices start).rows
  unfolding frame_run_from frame_leaves
  verdict_of-frame shiftBuffer frame = rw frame-all

pub frame-is-clean : FrameIsClean
unfolding frame_run_from frame_leaves
frame-is-clean d n ops errors choices F st shifts frame low room =
    let a = plus-all d n ops errors choices F st low room in
    rw (a.rows, frame-all d n ops errors choices F st, a.results)

-- So the rows of a direct run from shifted rows are those of the clean run, shifted by the frame carried to the end.
pub direct-shifted : (d n : ℕ) → Dimension d → (ops : List Operation) (errors : List WeylError) (choices F : List ℕ) → Accepted d n ops errors choices → Frame d n F
    → (t results : List ℕ) → Valid d n t
    → 2 * measured ops (length ops) ≤ length results
    → (direct_run d n ops errors (raised d n ops errors F choices) (state_of (shift_rows d n F t) results)).rows
    ≡ shift_rows d n (final_frame d n ops errors F) (direct_run d n ops [] choices (state_of t results)).rows
direct-shifted d n dim ops errors choices F ac f t results ok room =
    ap (λ (st : State). st.rows) (runs_same d n dim ops errors choices F ac f t results [] [] ok)
    ∙ rows-shifted d n ops errors choices F (state_of t results) (omega (arith, dim.low)) room [] []

pub frame-keeps-valid : FrameKeepsValid
unfolding frame_run_from frame_leaves
frame-keeps-valid d n dim ops errors choices F ac st ok shifts frame =
    shift-keeps-valid d n dim _ _ (frame-rows-valid d n dim ops errors choices ac _ ok)

pub clean-lists : CleanLists
clean-lists d n dim ops errors choices F ac st ok shifts frame room =
    let low : 0 < d = omega (arith, dim.low) in
    rw (verdict-shifted d n ops errors choices F st low room shifts frame, rows-shifted d n ops errors choices F st low room shifts frame)
    (clean-rows d n dim _ _ (run_keeps-valid d n dim ops [] choices (without_errors ac) st ok))
