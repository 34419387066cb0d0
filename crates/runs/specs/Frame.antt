-- The frame, and the frame run.
use Rattle.std.specs.Prelude.{◌≡◌, Bool, cond, List, [], ◌∷◌, ◌++◌, ℕ, zero, suc, ◌+◌, ◌*◌, ◌%◌, eqb, length, get_or, drop, replicate}
use Rattle.modular.specs.Modular.{neg}
use Rattle.row.specs.Row.{Powers, x_of, phase_of, tab, pairing}
use Rattle.search.specs.Search.{all}
use Rattle.tableau.specs.Tableau.{row, on_rows, every}
use Rattle.operation.specs.declared.Operation.{Operation}
use Rattle.operation.specs.declared.WeylError.{WeylError}
use Rattle.operation.specs.Gate.{with_x, less_x, with_phase, gate_rows, gate_frame}
use Rattle.operation.specs.Error.{error_rows, error_frame, minus_x}
use Rattle.circuit.specs.Circuit.{op_at, err_at, Kind, gate, measures, resets, corrects, kind, measured, chosen}
use Rattle.measurement.specs.declared.Look.{Look}
use Rattle.measurement.specs.declared.Look.TheVariants.{Free, Certain}
use Rattle.measurement.specs.Look.{look}
use Rattle.measurement.specs.Collapse.{collapse}
use Rattle.runs.specs.Run.{steps_from, with_result}
use Rattle.runs.specs.Direct.{State, reset_rows}

-- a frame of n qudits: X powers, then Z powers, all below d
pub record Frame (d n : ℕ) (F : List ℕ) : Type 0 where
  pub powers : Powers d n F
  pub len : length F ≡ 2 * n

-- One X power and one Z power per qudit, 0 at first.
abbrev pub no_frame : ℕ → List ℕ
no_frame n = replicate (2 * n) 0

-- the errors of place k among the first j entries, taken into the frame
unfoldable pub errors_on_frame : ℕ → ℕ → List WeylError → ℕ → List ℕ → ℕ → List ℕ
errors_on_frame d n errors k F zero = F
errors_on_frame d n errors k F (suc j) =
    cond (eqb (err_at errors j).place k) (error_frame d n (err_at errors j) (errors_on_frame d n errors k F j)) (errors_on_frame d n errors k F j)

-- A frame loses its X power on a reset qudit and keeps its Z power.
abbrev pub reset_frame : (q : ℕ) → List ℕ → List ℕ
reset_frame q F = with_x q 0 F

-- At a correction the target's X power loses the shift which that measurement had.
abbrev pub correct_frame : (d t shift : ℕ) → List ℕ → List ℕ
correct_frame d t shift F = less_x d t shift F

-- the clean result of measurement m: the reported one without its shift
abbrev pub clean_result : (d : ℕ) (results shifts : List ℕ) (m : ℕ) → ℕ
clean_result d results shifts m = (get_or results (2 * m) 0 + neg d (get_or shifts m 0)) % d

-- Each row's shift is the pairing of the frame with that row, and is added to its phase.
abbrev pub shift_at : ℕ → ℕ → List ℕ → List ℕ → ℕ → ℕ
shift_at d n F t i = pairing d n F (row n t i)

unfoldable pub shift_row : ℕ → ℕ → List ℕ → List ℕ → List ℕ
shift_row d n F v = with_phase n ((phase_of n v + pairing d n F v) % d) v

abbrev pub shift_rows : ℕ → ℕ → List ℕ → List ℕ → List ℕ
shift_rows d n F t = on_rows n (every (shift_row d n F)) t

-- The verdict is clean exactly when the n stabilizer shifts are 0, else shifted: 0 clean, 1 shifted. Stabilizer i is row n + i.
abbrev pub no_shift : ℕ → ℕ → List ℕ → List ℕ → ℕ → Bool
no_shift d n F t i = eqb (shift_at d n F t (n + i)) 0

unfoldable pub verdict_of : ℕ → ℕ → List ℕ → List ℕ → ℕ
verdict_of d n F t = cond (all (no_shift d n F t) n) 0 1

-- rows, results and frame, and the shift of each result so far
pub record FrameState : Type 0 where
  pub rows : List ℕ
  pub results : List ℕ
  pub frame : List ℕ
  pub shifts : List ℕ

-- what the frame run leaves: rows and results, the lent buffers of shifts and frame, and the verdict
pub record FrameEnd : Type 0 where
  pub rows : List ℕ
  pub results : List ℕ
  pub shifts : List ℕ
  pub frame : List ℕ
  pub verdict : ℕ

module _ (d n : ℕ) (choices : List ℕ) where
  -- The reported result is the clean one plus the frame's X power on q, which is its shift; the frame stays.
  unfoldable pub frame_look : (c j q : ℕ) → FrameState → Look → FrameState
  frame_look c j q st (Free k) =
      record {
        rows = collapse d n q k (get_or choices c 0) st.rows;
        results = with_result st.results j ((get_or choices c 0 + x_of st.frame q) % d) 1;
        frame = st.frame;
        shifts = st.shifts ++ (x_of st.frame q ∷ []);
      }
  frame_look c j q st (Certain outcome) =
      record {
        rows = st.rows;
        results = with_result st.results j ((outcome + x_of st.frame q) % d) 0;
        frame = st.frame;
        shifts = st.shifts ++ (x_of st.frame q ∷ []);
      }

  -- A gate is done on the rows and on the frame, a measurement on the rows alone. A reset is done on the rows as in the direct run. In a
  -- frame run the tableau is corrected by the clean result.
  unfoldable pub frame_kind : (c j : ℕ) → FrameState → Operation → Kind → FrameState
  frame_kind c j st op gate =
      record { rows = gate_rows d n op st.rows; results = st.results; frame = gate_frame d n op st.frame; shifts = st.shifts }
  frame_kind c j st op (measures q) = frame_look c j q st (look d n st.rows q)
  frame_kind c j st op (resets q) =
      record {
        rows = reset_rows d n choices c q st.rows (look d n st.rows q);
        results = st.results;
        frame = reset_frame q st.frame;
        shifts = st.shifts;
      }
  frame_kind c j st op (corrects t m) =
      record {
        rows = error_rows d n (minus_x d t (clean_result d st.results st.shifts m)) st.rows;
        results = st.results;
        frame = correct_frame d t (get_or st.shifts m 0) st.frame;
        shifts = st.shifts;
      }

  abbrev pub frame_operation : (c j : ℕ) → FrameState → Operation → FrameState
  frame_operation c j st op = frame_kind c j st op (kind op)

module _ (d n : ℕ) (ops : List Operation) (errors : List WeylError) (choices : List ℕ) where
  -- Errors are taken at the same moments, but change only the frame.
  unfoldable pub frame_errors : ℕ → FrameState → FrameState
  frame_errors k st =
      record { rows = st.rows; results = st.results; frame = errors_on_frame d n errors k st.frame (length errors); shifts = st.shifts }

  unfoldable pub frame_step : ℕ → FrameState → FrameState
  frame_step k st = frame_operation d n choices (chosen ops k) (measured ops k) (frame_errors k st) (op_at ops k)

  -- all operations, then the errors after them
  unfoldable pub frame_steps : FrameState → FrameState
  frame_steps st = frame_errors (length ops) (steps_from frame_step 0 st (length ops))

  -- At the end, after the last error, the shifts are added; shifts and frame are written to their buffers.
  unfoldable pub frame_leaves : List ℕ → List ℕ → FrameState → FrameEnd
  frame_leaves shifts frame st =
      record {
        rows = shift_rows d n st.frame st.rows;
        results = st.results;
        shifts = tab (shift_at d n st.frame st.rows) (2 * n) ++ drop (2 * n) shifts;
        frame = st.frame ++ drop (2 * n) frame;
        verdict = verdict_of d n st.frame st.rows;
      }

  -- from any frame F; the frame run begins with no powers
  unfoldable pub frame_run_from : List ℕ → State → List ℕ → List ℕ → FrameEnd
  frame_run_from F st shifts frame =
      frame_leaves shifts frame (frame_steps (record { rows = st.rows; results = st.results; frame = F; shifts = [] }))

  unfoldable pub frame_run : State → List ℕ → List ℕ → FrameEnd
  frame_run st shifts frame = frame_run_from (no_frame n) st shifts frame
