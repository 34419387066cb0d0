-- One clean run serves every shot.
-- Assumes nothing.
use mathlib.Core.Path.{◌≡◌, sym, ap, ◌∙◌}
use mathlib.Core.List.{List, [], ◌∷◌}
use Prim.Native.Nat.{ℕ, ◌*◌, ◌<◌, ◌≤◌}
use native.Mathlib.Omega.{arith}
use lib.ListN.{length, take, replicate, length-replicate}
use lib.Seq.{take_all}
use Rattle.operation.specs.declared.Operation.{Operation}
use Rattle.operation.specs.declared.WeylError.{WeylError}
use Rattle.circuit.specs.Circuit.{measured}
use Rattle.runs.specs.Direct.{State, direct_run}
use Rattle.runs.specs.Frame.{FrameEnd, no_frame, verdict_of, frame_leaves, frame_run}
use Rattle.runs.specs.Raised.{final_frame, result_shifts}
use Rattle.runs.proofs.Results.{frame-results}
use Rattle.runs.proofs.Carry.{with_first}
use Rattle.run_laws.proofs.Clean.{frame-is-clean}
use Rattle.shots.specs.Clean.{clean_plus, CleanServes}

module _ (d n : ℕ) (ops : List Operation) (errors : List WeylError) (choices : List ℕ) (st : State) (shifts frame : List ℕ) (low : 0 < d)
    (room : 2 * measured ops (length ops) ≤ length st.results) where
  abbrev total : ℕ
  total = measured ops (length ops)

  abbrev end : FrameEnd
  end = frame_run d n ops errors choices st shifts frame

  abbrev clean : State
  clean = direct_run d n ops [] choices st

  abbrev shifts_of : List ℕ
  shifts_of = result_shifts d n ops errors (no_frame n)

  -- verdict and results of a frame run that was lent more bytes than it needs
  pub shifted-first : end.verdict ∷ take (2 * total) end.results ≡ clean_plus d n ops clean errors
  unfolding frame_run frame_leaves clean_plus
  shifted-first =
      ap (λ (x : FrameEnd). x.verdict ∷ take (2 * total) x.results) (frame-is-clean d n ops errors choices (no_frame n) st shifts frame low room)
      ∙ ap (◌∷◌ (verdict_of d n (final_frame d n ops errors (no_frame n)) clean.rows)) (with_first d shifts_of total clean.results)

pub clean_serves : CleanServes
clean_serves d n ops choices t errors low =
    let total = measured ops (length ops) in
    let start : State = record { rows = t; results = replicate (2 * total) 0 } in
    let room : 2 * total ≤ length start.results = omega (arith, length-replicate {A = ℕ} (2 * total) 0) in
    let end = frame_run d n ops errors choices start [] [] in
    let whole : take (2 * total) end.results ≡ end.results =
    take_all (2 * total) end.results (omega (arith, frame-results d n ops errors choices start [] [], length-replicate {A = ℕ} (2 * total) 0)) in
    ap (◌∷◌ end.verdict) (sym whole) ∙ shifted-first d n ops errors choices start [] [] low room
