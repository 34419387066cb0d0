-- What a step does to the frame, to the results and to the shifts that are noted beside them.
use Rattle.std.specs.Prelude.{List, ℕ, ◌+◌, ◌*◌, ◌%◌, ◌<◌, ◌≤◌, length, get_or, set}
use Rattle.row.specs.Row.{x_of}
use Rattle.operation.specs.declared.Operation.{Operation}
use Rattle.operation.specs.declared.WeylError.{WeylError}
use Rattle.operation.specs.Gate.{gate_frame}
use Rattle.circuit.specs.Circuit.{op_at, Kind, gate, measures, resets, corrects, kind, measured}
use Rattle.runs.specs.Frame.{reset_frame, correct_frame}
use Rattle.runs.specs.Raised.{frame_before}

-- the shifts of the first j results, with room for those of all measurements
pub record Noted (d count j : ℕ) (shifts : List ℕ) : Type 0 where
  pub room : count ≤ length shifts
  pub below : (i : ℕ) → i < j → get_or shifts i 0 < d

-- the frame after an operation, with the shifts that earlier results had
unfoldable pub moved_by : (d n : ℕ) → Operation → Kind → (shifts F : List ℕ) → List ℕ
moved_by d n op gate shifts F = gate_frame d n op F
moved_by d n op (measures q) shifts F = F
moved_by d n op (resets q) shifts F = reset_frame q F
moved_by d n op (corrects t m) shifts F = correct_frame d t (get_or shifts m 0) F

-- the outcome of measurement j, of qudit q, gains the frame's X power on q; other operations leave the results
unfoldable pub shifted_by : ℕ → ℕ → Kind → List ℕ → List ℕ → List ℕ
shifted_by d j gate F results = results
shifted_by d j (measures q) F results = set results (2 * j) ((get_or results (2 * j) 0 + x_of F q) % d)
shifted_by d j (resets q) F results = results
shifted_by d j (corrects t m) F results = results

-- and that power is noted as its shift
unfoldable pub noted_by : ℕ → Kind → List ℕ → List ℕ → List ℕ
noted_by j gate F shifts = shifts
noted_by j (measures q) F shifts = set shifts j (x_of F q)
noted_by j (resets q) F shifts = shifts
noted_by j (corrects t m) F shifts = shifts

module _ (d n : ℕ) (ops : List Operation) (errors : List WeylError) where
  -- frame, results and shifts after step k: the errors of place k, then operation k
  abbrev pub frame_after : ℕ → List ℕ → List ℕ → List ℕ
  frame_after k shifts F = moved_by d n (op_at ops k) (kind (op_at ops k)) shifts (frame_before d n ops errors k F)

  abbrev pub results_after : ℕ → List ℕ → List ℕ → List ℕ
  results_after k F results = shifted_by d (measured ops k) (kind (op_at ops k)) (frame_before d n ops errors k F) results

  abbrev pub shifts_after : ℕ → List ℕ → List ℕ → List ℕ
  shifts_after k F shifts = noted_by (measured ops k) (kind (op_at ops k)) (frame_before d n ops errors k F) shifts
