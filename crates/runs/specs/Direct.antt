-- The direct run.
use Rattle.std.specs.Prelude.{cond, List, ℕ, zero, suc, eqb, length, get_or}
use Rattle.operation.specs.declared.Operation.{Operation}
use Rattle.operation.specs.declared.WeylError.{WeylError}
use Rattle.operation.specs.Gate.{gate_rows}
use Rattle.operation.specs.Error.{error_rows, minus_x}
use Rattle.circuit.specs.Circuit.{op_at, err_at, Kind, gate, measures, resets, corrects, kind, measured, chosen}
use Rattle.measurement.specs.declared.Look.{Look}
use Rattle.measurement.specs.declared.Look.TheVariants.{Free, Certain}
use Rattle.measurement.specs.Look.{look}
use Rattle.measurement.specs.Collapse.{collapse}
use Rattle.runs.specs.Run.{steps_from, with_result, result_of}

pub record State : Type 0 where
  pub rows : List ℕ
  pub results : List ℕ

-- the state that two buffers hold
abbrev pub state_of : (rows results : List ℕ) → State
state_of rows results = record { rows = rows; results = results }

-- each error of place k among the first j entries, in the order of the entries, applied to every row
unfoldable pub errors_on_rows : ℕ → ℕ → List WeylError → ℕ → List ℕ → ℕ → List ℕ
errors_on_rows d n errors k t zero = t
errors_on_rows d n errors k t (suc j) =
    cond (eqb (err_at errors j).place k) (error_rows d n (err_at errors j) (errors_on_rows d n errors k t j)) (errors_on_rows d n errors k t j)

module _ (d n : ℕ) (choices : List ℕ) where
  -- Measurement j, of qudit q, takes choice c, whether it is used or not. A result is the measurement's outcome.
  unfoldable pub direct_look : (c j q : ℕ) → State → Look → State
  direct_look c j q st (Free k) =
      record { rows = collapse d n q k (get_or choices c 0) st.rows; results = with_result st.results j (get_or choices c 0) 1 }
  direct_look c j q st (Certain outcome) = record { rows = st.rows; results = with_result st.results j outcome 0 }

  -- A reset of qudit q: it is measured, consuming choice c but giving no result, and then X to the minus outcome is applied.
  unfoldable pub reset_rows : (c q : ℕ) → List ℕ → Look → List ℕ
  reset_rows c q t (Free k) = error_rows d n (minus_x d q (get_or choices c 0)) (collapse d n q k (get_or choices c 0) t)
  reset_rows c q t (Certain outcome) = error_rows d n (minus_x d q outcome) t

  -- An operation done on the rows, c choices having been taken and j results given before it. A correction of qudit t applies X to the
  -- minus result of measurement m.
  unfoldable pub direct_kind : (c j : ℕ) → State → Operation → Kind → State
  direct_kind c j st op gate = record { rows = gate_rows d n op st.rows; results = st.results }
  direct_kind c j st op (measures q) = direct_look c j q st (look d n st.rows q)
  direct_kind c j st op (resets q) = record { rows = reset_rows c q st.rows (look d n st.rows q); results = st.results }
  direct_kind c j st op (corrects t m) =
      record { rows = error_rows d n (minus_x d t (result_of d st.results m)) st.rows; results = st.results }

  abbrev pub direct_operation : (c j : ℕ) → State → Operation → State
  direct_operation c j st op = direct_kind c j st op (kind op)

module _ (d n : ℕ) (ops : List Operation) (errors : List WeylError) (choices : List ℕ) where
  -- the errors of place k
  unfoldable pub direct_errors : ℕ → State → State
  direct_errors k st = record { rows = errors_on_rows d n errors k st.rows (length errors); results = st.results }

  -- Before operation k, each error of place k is applied to every row; then operation k is done on the rows.
  unfoldable pub direct_step : ℕ → State → State
  direct_step k st = direct_operation d n choices (chosen ops k) (measured ops k) (direct_errors k st) (op_at ops k)

  -- Errors placed after all operations come last.
  unfoldable pub direct_run : State → State
  direct_run st = direct_errors (length ops) (steps_from direct_step 0 st (length ops))
