-- The rows of a block, each in its place, are the bytes of its shots.
-- Assumes nothing.
use mathlib.Core.Path.{◌≡◌, refl, sym, ap, ◌∙◌}
use mathlib.Core.Bool.{true}
use mathlib.Core.List.{List, []}
use Prim.Native.Nat.{ℕ, zero, suc, ◌+◌, ◌*◌, ◌<◌, ◌≤◌}
use native.Mathlib.Decide.{ℕ_discrete}
use native.Mathlib.Numerals.{add-one}
use native.Mathlib.Omega.{arith}
use lib.ListN.{length, get_or}
use borrow.Author.Tests.{eq-eqb, ne_eqb}
use Rattle.modular.specs.Dimension.{Dimension}
use Rattle.operation.specs.declared.Operation.{Operation}
use Rattle.operation.specs.declared.WeylError.{WeylError}
use Rattle.operation.specs.Operation.{allowed}
use Rattle.circuit.specs.Circuit.{op_at, measured}
use Rattle.tray.specs.Tray.{length_at, start_of}
use Rattle.runs.specs.Direct.{State}
use Rattle.runs.specs.Frame.{no_frame, verdict_of}
use Rattle.runs.specs.Raised.{final_frame}
use Rattle.run_laws.proofs.NoErrors.{final_clean}
use Rattle.calendar.specs.LaneErrors.{errors_at}
use Rattle.calendar.specs.declared.lane_errors.Span.{Span}
use Rattle.shots.specs.Clean.{clean_plus}
use Rattle.shots.proofs.NoErrors.{clean-alone}
use Rattle.lane_shots.specs.LaneShots.{bytes_by, verdict_by, shifted_shots, ShotRows}
use Rattle.expand.specs.Expand.{noisy_among, shot_row_of, Expanded}
use Rattle.expand.proofs.Noisy.{noisy_none, noisy_one, noisy_less}
use Rattle.blocks.specs.Blocks.{shot_errors, Assigned}
use Rattle.blocks.proofs.Assignment.{no_bytes, lane-errors}

module _ (d n : ℕ) (dim : Dimension d) (ops : List Operation) (good : (k : ℕ) → k < length ops → allowed d n (op_at ops k) ≡ true) (clean : State)
    (tray : List ℕ) (first count : ℕ) (spans : List Span) (h : Assigned tray first count spans) where
  abbrev shots : ℕ → List WeylError
  shots i = shot_errors tray (first + i)

  abbrev lanes : ℕ → List WeylError
  lanes = errors_at tray spans

  none : (i : ℕ) → length_at tray (first + i) ≡ 0 → shots i ≡ []
  none i e = no_bytes (start_of tray (first + i)) (length_at tray (first + i)) tray e

  -- how many are shifted
  lane-shifted : (k : ℕ) → shifted_shots d n ops clean lanes (k + 1) ≡ shifted_shots d n ops clean lanes k + verdict_by d n ops clean lanes k
  unfolding shifted_shots
  lane-shifted k = rw (add-one k)

  one_more : (k : ℕ) → k < count → shifted_shots d n ops clean lanes (noisy_among tray first k) ≡ shifted_shots d n ops clean shots k
      → Dec (length_at tray (first + k) ≡ 0)
      → shifted_shots d n ops clean lanes (noisy_among tray first (suc k)) ≡ shifted_shots d n ops clean shots k + verdict_by d n ops clean shots k
  one_more k l before (yes e) =
      let clear : verdict_by d n ops clean shots k ≡ 0 =
      ap (λ (E : List WeylError). verdict_of d n (final_frame d n ops E (no_frame n)) clean.rows) (none k e) ∙ final_clean d n dim ops good clean.rows in
      ap (shifted_shots d n ops clean lanes) (noisy_none tray first k e) ∙ omega (arith, before, clear)
  one_more k l before (no e) =
      let same : verdict_by d n ops clean lanes (noisy_among tray first k) ≡ verdict_by d n ops clean shots k =
      ap (λ (E : List WeylError). verdict_of d n (final_frame d n ops E (no_frame n)) clean.rows) (lane-errors h k l e) in
      ap (shifted_shots d n ops clean lanes) (noisy_one tray first k e) ∙ omega (arith, lane-shifted (noisy_among tray first k), before, same)

  shifted : (k : ℕ) → k ≤ count → shifted_shots d n ops clean lanes (noisy_among tray first k) ≡ shifted_shots d n ops clean shots k
  unfolding noisy_among shifted_shots
  shifted zero l = refl
  shifted (suc k) l = one_more k (omega arith) (shifted k (omega arith)) (ℕ_discrete (length_at tray (first + k)) 0)

  pub shifted-all : shifted_shots d n ops clean lanes (noisy_among tray first count) ≡ shifted_shots d n ops clean shots count
  shifted-all = shifted count (omega arith)

  module _ (exact : length clean.results ≡ 2 * measured ops (length ops))
      (below : (i : ℕ) → i < measured ops (length ops) → get_or clean.results (2 * i) 0 < d) (w : ℕ) (out mid out' : List ℕ)
      (a : ShotRows d n ops clean lanes w (noisy_among tray first count) out mid)
      (x : Expanded tray first clean.results w count mid out') where
    row : (i : ℕ) → i < count → Dec (length_at tray (first + i) ≡ 0) → shot_row_of tray first clean.results w mid i ≡ bytes_by d n ops clean shots i
    row i l (yes e) =
        rw (eq-eqb (length_at tray (first + i)) 0 e)
        (sym (clean-alone d n dim ops good clean exact below) ∙ ap (clean_plus d n ops clean) (sym (none i e)))
    row i l (no e) =
        rw (ne_eqb (length_at tray (first + i)) 0 e)
        (a.rows (noisy_among tray first i) (noisy_less tray first i count l e) ∙ ap (clean_plus d n ops clean) (lane-errors h i l e))

    pub shot-rows : ShotRows d n ops clean shots w count out out'
    shot-rows = record { len = x.len ∙ a.len; rows = λ i l. x.rows i l ∙ row i l (ℕ_discrete (length_at tray (first + i)) 0) }
