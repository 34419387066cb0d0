-- What a tray run fills and counts is what separate frame runs from the lent tableau would.
-- Assumes nothing.
use mathlib.Core.Path.{◌≡◌, refl, sym, ap, ap₂, ◌∙◌}
use mathlib.Core.Bool.{cond}
use mathlib.Core.List.{List, []}
use Prim.Native.Nat.{ℕ, zero, suc, ◌+◌, ◌-◌, ◌*◌, ◌≤◌}
use native.Mathlib.Omega.{arith}
use lib.Dec.{eqb}
use lib.ListN.{length, get_or, drop, length-drop}
use lib.Seq.{ext_get_or, get_or-drop}
use Rattle.modular.proofs.Listed.{dimension}
use Rattle.tableau.proofs.Parts.{each-rest, same}
use Rattle.operation.specs.declared.Operation.{Operation}
use Rattle.circuit.specs.Circuit.{measured}
use Rattle.book.specs.Decoded.{operations_of, errors_of}
use Rattle.tray.specs.Tray.{shots_in, shot_body}
use Rattle.runs.specs.Direct.{State}
use Rattle.runs.specs.Frame.{no_frame}
use Rattle.runs.specs.Raised.{final_frame}
use Rattle.run_laws.proofs.Books.{named_in}
use Rattle.run_laws.proofs.Results.{related_none, Equal}
use Rattle.run_laws.proofs.Buffers.{Twin, twin_run}
use Rattle.shots.specs.Shots.{shot_bytes, run_of, shot_row, filled_by, shifted_among}
use Rattle.shots.specs.Clean.{clean_plus, clean_run}
use Rattle.shots.proofs.Clean.{clean_serves}
use Rattle.shots.proofs.Same.{plus-same}
use Rattle.shots.proofs.Rows.{keeps, shot-at}
use Rattle.verdicts.proofs.Written.{verdict-small}
use Rattle.lane_shots.specs.LaneShots.{blank, verdict_by, bytes_by, shifted_shots}
use Rattle.lane_shots.proofs.Starting.{blank-length}
use Rattle.blocks.specs.Blocks.{shot_errors, ShotsFilled}
use Rattle.shots_run.specs.Ready.{Ready}
use Rattle.shots_run.specs.CopyRun.{copy_run, AllShotsFilled, all_shots_shifted}
use Rattle.shots_run.proofs.CleanRun.{window}

module _ {d n : ℕ} {tray t ops choices : List ℕ} (h : Ready d n tray t ops choices) where
  abbrev list : List Operation
  list = operations_of d n ops

  abbrev total : ℕ
  total = measured list (length list)

  abbrev copied : State
  copied = copy_run d n ops choices t

  twins : Twin n total total (clean_run d n list choices t) copied
  twins =
      let dim = dimension d h.dimension in
      let r : 2 * total ≤ length (blank (2 * total)) = omega (arith, blank-length (2 * total)) in
      twin_run d n (omega (arith, dim.low)) list [] choices (named_in h.circuit) (record { rows = window n t h.tableau.room; results = related_none Equal total r r })

  -- a shot by the clean run on the copy is the separate frame run
  shot-is : (i : ℕ) → bytes_by d n list copied (shot_errors tray) i ≡ shot_bytes (run_of d n list choices t tray i)
  shot-is i =
      plus-same d n list (clean_run d n list choices t) copied (errors_of (shot_body tray i)) twins
      ∙ sym (clean_serves d n list choices t (errors_of (shot_body tray i)) (omega (arith, (dimension d h.dimension).low)))

  verdict-is : (i : ℕ) → verdict_by d n list copied (shot_errors tray) i ≡ (run_of d n list choices t tray i).verdict
  unfolding clean_plus
  verdict-is i = ap (λ (v : List ℕ). get_or v 0 0) (shot-is i)

  -- the counts
  abbrev one : ℕ → ℕ
  one v = cond (eqb v 0) 0 1

  small_one : (v : ℕ) → v ≤ 1 → v ≡ one v
  small_one zero l = refl
  small_one (suc zero) l = refl
  small_one (suc (suc v)) l = absurd (omega arith)

  shifted-is : (k : ℕ) → shifted_shots d n list copied (shot_errors tray) k ≡ shifted_among d n list choices t tray k
  unfolding shifted_shots shifted_among
  shifted-is zero = refl
  shifted-is (suc k) =
      let low = verdict-small d n (final_frame d n list (errors_of (shot_body tray k)) (no_frame n)) copied.rows in
      ap₂ ◌+◌ (shifted-is k) (small_one _ low ∙ ap one (verdict-is k))

  -- the bytes
  filled_is : {out out' : List ℕ} → shots_in tray * (1 + 2 * total) ≤ length out
      → ShotsFilled d n list copied (shot_errors tray) (1 + 2 * total) 0 (shots_in tray) out out'
      → out' ≡ filled_by d n list choices t tray out (shots_in tray)
  filled_is {out} {out'} room f =
      same (1 + 2 * total) out' (filled_by d n list choices t tray out (shots_in tray)) (shots_in tray)
      (λ i l. f.rows i (omega arith) l ∙ shot-is i ∙ sym (shot-at d n list choices t tray out (shots_in tray) i l room))
      (rests ∙ sym (each-rest (shot_row d n list choices t tray) (1 + 2 * total) out (keeps d n list choices t tray) (shots_in tray) room))
    where
      rests : drop (shots_in tray * (1 + 2 * total)) out' ≡ drop (shots_in tray * (1 + 2 * total)) out
      rests =
          ext_get_or 0 _ _
          (length-drop (shots_in tray * (1 + 2 * total)) out' ∙ ap (λ (x : ℕ). x - shots_in tray * (1 + 2 * total)) f.len ∙ sym (length-drop (shots_in tray * (1 + 2 * total)) out))
          (λ i l.
          get_or-drop (shots_in tray * (1 + 2 * total)) out' i 0
          ∙ f.after (shots_in tray * (1 + 2 * total) + i) (omega arith)
          ∙ sym (get_or-drop (shots_in tray * (1 + 2 * total)) out i 0))

  -- both
  pub results-by : {r : ℕ} {out out' : List ℕ} → shots_in tray * (1 + 2 * total) ≤ length out
      → AllShotsFilled d n ops choices t tray out out' × (r ≡ all_shots_shifted d n ops choices t tray)
      → (out' ≡ filled_by d n list choices t tray out (shots_in tray)) × (r ≡ shifted_among d n list choices t tray (shots_in tray))
  results-by room f = (filled_is room f.0, f.1 ∙ shifted-is (shots_in tray))
