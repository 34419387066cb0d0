-- What is filled, shot by shot, and how many shots are counted.
-- Assumes nothing.
use mathlib.Core.Path.{◌≡◌, refl}
use mathlib.Core.Bool.{Bool, true, false, cond}
use mathlib.Core.List.{List, []}
use Prim.Native.Nat.{ℕ, zero, suc, ◌+◌, ◌*◌, ◌≤◌, ◌<◌}
use native.Mathlib.Omega.{arith}
use lib.Dec.{eqb}
use lib.ListN.{length, replicate, length-replicate}
use Rattle.tableau.specs.Tableau.{part}
use Rattle.tableau.proofs.Parts.{Keeps, each_at}
use Rattle.operation.specs.declared.Operation.{Operation}
use Rattle.circuit.specs.Circuit.{measured}
use Rattle.book.specs.Decoded.{errors_of}
use Rattle.tray.specs.Tray.{shot_body}
use Rattle.shots.specs.Shots.{shot_bytes, run_of, shot_row, filled_by, clean_among, shifted_among}
use Rattle.runs.proofs.Results.{frame-results}

module _ (d n : ℕ) (ops : List Operation) (choices t tray : List ℕ) where
  abbrev total : ℕ
  total = measured ops (length ops)

  shot-length : (i : ℕ) → length (shot_bytes (run_of d n ops choices t tray i)) ≡ 1 + 2 * total
  shot-length i =
      let size : length {A = ℕ} (replicate (2 * total) 0) ≡ 2 * total = length-replicate (2 * total) 0 in
      let e = frame-results d n ops (errors_of (shot_body tray i)) choices (record { rows = t; results = replicate (2 * total) 0 }) [] [] in
      omega (arith, e, size)

  pub keeps : Keeps (1 + 2 * total) (shot_row d n ops choices t tray)
  unfolding shot_row
  keeps = record { keeps = λ i v e. shot-length i }

  pub shot-at : (out : List ℕ) (shots i : ℕ) → i < shots → shots * (1 + 2 * total) ≤ length out
      → part (i * (1 + 2 * total)) (1 + 2 * total) (filled_by d n ops choices t tray out shots) ≡ shot_bytes (run_of d n ops choices t tray i)
  unfolding shot_row
  shot-at out shots i l room = each_at (shot_row d n ops choices t tray) (1 + 2 * total) out keeps shots i l room

  -- a shot is clean or shifted
  one_each : (b : Bool) → cond b 1 0 + cond b 0 1 ≡ 1
  one_each true = omega arith
  one_each false = omega arith

  pub counts_are : (k : ℕ) → clean_among d n ops choices t tray k + shifted_among d n ops choices t tray k ≡ k
  unfolding clean_among shifted_among
  counts_are zero = refl
  counts_are (suc k) = omega (arith, counts_are k, one_each (eqb (run_of d n ops choices t tray k).verdict 0))
