-- What the sheet says, over decoded lists. The statements are proved in proofs/.
use Rattle.std.specs.Prelude.{◌≡◌, List, [], ℕ, ◌+◌, ◌*◌, ◌%◌, ◌<◌, ◌≤◌, length, get_or}
use Rattle.modular.specs.Dimension.{Dimension}
use Rattle.operation.specs.declared.Operation.{Operation}
use Rattle.operation.specs.declared.WeylError.{WeylError}
use Rattle.circuit.specs.Circuit.{err_at, measured, measurement_count, Accepted}
use Rattle.runs.specs.Direct.{State, direct_run}
use Rattle.runs.specs.Frame.{FrameEnd, frame_run}
use Rattle.sheet.specs.Weights.{shift_of, weight_x, weight_z, weighed, sheet_in}

-- For any powers put into the entries, the shift of a result is the sum of powers times weights, modulo d.
abbrev pub ShiftsWeighed : Type 0
ShiftsWeighed = (d n : ℕ) → Dimension d → (ops : List Operation) (errors : List WeylError) (choices : List ℕ) → Accepted d n ops errors choices
    → (j : ℕ) → j < measurement_count ops
    → shift_of d n ops errors j ≡ weighed d n ops errors j (length errors) % d

-- Each result of the frame run is the clean one plus a sum, modulo d, with the same mark.
pub record ResultsWeighed (d measurements : ℕ) (total : ℕ → ℕ) (clean : State) (framed : FrameEnd) : Type 0 where
  pub outcomes : (j : ℕ) → j < measurements → get_or framed.results (2 * j) 0 ≡ (get_or clean.results (2 * j) 0 + total j) % d
  pub marks : (j : ℕ) → j < measurements → get_or framed.results (2 * j + 1) 0 ≡ get_or clean.results (2 * j + 1) 0

-- And so it equals the frame run's.
abbrev pub FrameWeighed : Type 0
FrameWeighed = (d n : ℕ) → Dimension d → (ops : List Operation) (errors : List WeylError) (choices : List ℕ) → Accepted d n ops errors choices
    → (st : State) (shifts frame : List ℕ) → 2 * measurement_count ops ≤ length st.results
    → ResultsWeighed d (measurement_count ops) (λ j. weighed d n ops errors j (length errors)) (direct_run d n ops [] choices st)
    (frame_run d n ops errors choices st shifts frame)

-- A measurement before the entry's place has 0 and 0.
abbrev pub NoneBefore : Type 0
NoneBefore = (d n : ℕ) → Dimension d → (ops : List Operation) (errors : List WeylError) (choices : List ℕ) → Accepted d n ops errors choices
    → (i : ℕ) → i < length errors → (j : ℕ) → j < measured ops (err_at errors i).place
    → (weight_x d n ops (err_at errors i) j ≡ 0) × (weight_z d n ops (err_at errors i) j ≡ 0)

-- entries at the same places on the same qudits, whatever their powers
pub record SamePlaces (errors errors' : List WeylError) : Type 0 where
  pub as_many : length errors ≡ length errors'
  pub places : (i : ℕ) → i < length errors → (err_at errors i).place ≡ (err_at errors' i).place
  pub qudits : (i : ℕ) → i < length errors → (err_at errors i).qudit ≡ (err_at errors' i).qudit

-- The sheet does not depend on the powers now in the book (and it names no choices).
abbrev pub SheetOfPlaces : Type 0
SheetOfPlaces = (d n : ℕ) (ops : List Operation) (errors errors' : List WeylError) → SamePlaces errors errors'
    → (out : List ℕ) → sheet_in d n ops errors out ≡ sheet_in d n ops errors' out
