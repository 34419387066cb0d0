-- A sheet of weights: for each error entry and each measurement, how much the result shifts for p = 1 and for s = 1.
use Rattle.std.specs.Prelude.{cond, List, [], ◌∷◌, ℕ, zero, suc, ◌+◌, ◌*◌, ◌/◌, ◌%◌, eqb, length, get_or}
use Rattle.row.specs.Row.{tab}
use Rattle.tableau.specs.Tableau.{each_row}
use Rattle.operation.specs.declared.Operation.{Operation}
use Rattle.operation.specs.declared.WeylError.{WeylError}
use Rattle.circuit.specs.Circuit.{err_at, measurement_count}
use Rattle.runs.specs.Frame.{no_frame}
use Rattle.runs.specs.Raised.{result_shifts}

-- the entry e with the powers p and s
abbrev pub with_powers : WeylError → (p s : ℕ) → WeylError
with_powers e p s = record { place = e.place; qudit = e.qudit; p = p; s = s }

-- the entry e as the only error, for p = 1 and for s = 1
abbrev pub unit_x : WeylError → List WeylError
unit_x e = with_powers e 1 0 ∷ []

abbrev pub unit_z : WeylError → List WeylError
unit_z e = with_powers e 0 1 ∷ []

-- Needed: 2 bytes per measurement for each error.
abbrev pub row_bytes : List Operation → ℕ
row_bytes ops = 2 * measurement_count ops

abbrev pub sheet_bytes : List Operation → List WeylError → ℕ
sheet_bytes ops errors = length errors * row_bytes ops

module _ (d n : ℕ) (ops : List Operation) where
  -- how much result j shifts
  abbrev pub shift_of : List WeylError → ℕ → ℕ
  shift_of errors j = get_or (result_shifts d n ops errors (no_frame n)) j 0

  -- for p = 1 and for s = 1
  abbrev pub weight_x : WeylError → ℕ → ℕ
  weight_x e j = shift_of (unit_x e) j

  abbrev pub weight_z : WeylError → ℕ → ℕ
  weight_z e j = shift_of (unit_z e) j

  -- 2 bytes per pair of an error and a measurement: those of entry e
  abbrev pub weight_byte : WeylError → ℕ → ℕ
  weight_byte e b = cond (eqb (b % 2) 0) (weight_x e (b / 2)) (weight_z e (b / 2))

  unfoldable pub weights_of : WeylError → List ℕ
  weights_of e = tab (weight_byte e) (row_bytes ops)

  module _ (errors : List WeylError) where
    -- Error by error: row i, whatever it held, becomes the weights of entry i. Bytes past the last are kept.
    unfoldable pub sheet_row : ℕ → List ℕ → List ℕ
    sheet_row i v = weights_of (err_at errors i)

    abbrev pub sheet_in : List ℕ → List ℕ
    sheet_in out = each_row sheet_row (row_bytes ops) out (length errors)

    -- the sum of powers times weights, over the first i entries, for result j
    unfoldable pub weighed : (j i : ℕ) → ℕ
    weighed j zero = 0
    weighed j (suc i) =
        weighed j i + ((err_at errors i).p * weight_x (err_at errors i) j + (err_at errors i).s * weight_z (err_at errors i) j)
