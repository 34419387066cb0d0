-- What is carried in place of errors, and the second book of demand 3. The first book's operations and errors alone settle the frame.
use Rattle.std.specs.Prelude.{List, [], ◌∷◌, ◌++◌, ℕ, zero, suc, ◌+◌, length, get_or}
use Rattle.row.specs.Row.{x_of, tab, sum_at}
use Rattle.operation.specs.declared.Operation.{Operation}
use Rattle.operation.specs.declared.WeylError.{WeylError}
use Rattle.operation.specs.Gate.{gate_frame}
use Rattle.circuit.specs.Circuit.{op_at, Kind, gate, measures, resets, corrects, kind}
use Rattle.runs.specs.Frame.{errors_on_frame, reset_frame, correct_frame}

-- the frame, and the shift of each result so far: the X power which the frame had on the measured qudit just before that measurement
pub record Carry : Type 0 where
  pub frame : List ℕ
  pub shifts : List ℕ

-- a frame, and no result yet
abbrev pub carrying : List ℕ → Carry
carrying F = record { frame = F; shifts = [] }

module _ (d n : ℕ) (ops : List Operation) (errors : List WeylError) where
  -- what operation k does to a frame and to the shifts: a gate maps the frame, a measurement leaves it
  unfoldable pub carry_by : ℕ → Kind → Carry → Carry
  carry_by k gate C = record { frame = gate_frame d n (op_at ops k) C.frame; shifts = C.shifts }
  carry_by k (measures q) C = record { frame = C.frame; shifts = C.shifts ++ (x_of C.frame q ∷ []) }
  carry_by k (resets q) C = record { frame = reset_frame q C.frame; shifts = C.shifts }
  carry_by k (corrects t m) C = record { frame = correct_frame d t (get_or C.shifts m 0) C.frame; shifts = C.shifts }

  -- the frame just before operation k, errors of place k included
  unfoldable pub frame_before : ℕ → List ℕ → List ℕ
  frame_before k F = errors_on_frame d n errors k F (length errors)

  abbrev pub carry_before : ℕ → Carry → Carry
  carry_before k C = record { frame = frame_before k C.frame; shifts = C.shifts }

  -- carried over `count` operations, the first of them operation `from`, with the shifts of all measurements before it
  unfoldable pub carried : ℕ → Carry → ℕ → Carry
  carried from C zero = C
  carried from C (suc count) = carry_by (from + count) (kind (op_at ops (from + count))) (carry_before (from + count) (carried from C count))

  -- the frame F carried over the first `count` operations
  abbrev pub carried_frame : List ℕ → ℕ → List ℕ
  carried_frame F count = (carried 0 (carrying F) count).frame

  -- the frame after all operations, errors after them included
  abbrev pub final_frame : List ℕ → List ℕ
  final_frame F = frame_before (length ops) (carried_frame F (length ops))

  -- the shift of each result
  abbrev pub result_shifts : List ℕ → List ℕ
  result_shifts F = (carried 0 (carrying F) (length ops)).shifts

  -- What raises each choice: the X power which the frame has on the measured or reset qudit just before that operation.
  unfoldable pub raise_by : ℕ → Kind → List ℕ → List ℕ → List ℕ
  raise_by k gate F raises = raises
  raise_by k (measures q) F raises = raises ++ (x_of (frame_before k F) q ∷ [])
  raise_by k (resets q) F raises = raises ++ (x_of (frame_before k F) q ∷ [])
  raise_by k (corrects t m) F raises = raises

  unfoldable pub choice_raises : ℕ → Carry → ℕ → List ℕ
  choice_raises from C zero = []
  choice_raises from C (suc count) =
      raise_by (from + count) (kind (op_at ops (from + count))) (carried from C count).frame (choice_raises from C count)

  -- The choice of each measurement is raised, modulo d, by that power; resets' choices are raised in the same manner.
  unfoldable pub raised : List ℕ → List ℕ → List ℕ
  raised F choices = tab (sum_at d choices (choice_raises 0 (carrying F) (length ops))) (length choices)
