-- Over decoded lists: both runs keep a tableau valid; demand 3: a Weyl error, wherever it strikes, may be carried to the end; and
-- what the verdict says. The statements are proved in proofs/.
use Rattle.std.specs.Prelude.{◌≡◌, ◌↔◌, List, [], ℕ, ◌+◌, ◌*◌, ◌<◌, ◌≤◌, length, get_or}
use Rattle.modular.specs.Dimension.{Dimension}
use Rattle.row.specs.Row.{Powers}
use Rattle.operation.specs.declared.Operation.{Operation}
use Rattle.operation.specs.declared.WeylError.{WeylError}
use Rattle.circuit.specs.Circuit.{measured, Accepted}
use Rattle.validity.specs.Validity.{Valid}
use Rattle.measurement_laws.specs.Stabilizers.{SameSet}
use Rattle.measurement.specs.declared.Look.TheVariants.{Certain}
use Rattle.measurement.specs.Look.{look}
use Rattle.runs.specs.Direct.{State, reset_rows, direct_step, direct_run}
use Rattle.runs.specs.Frame.{FrameEnd, no_frame, shift_rows, verdict_of, frame_leaves, frame_run_from, frame_run}
use Rattle.runs.specs.Raised.{raised}
use Rattle.runs.specs.Carry.{clean_carried}

-- Validity survives every operation and error: each step of the direct run keeps it (the errors of its place, then any of the
-- nine operations), and so does the whole run.
abbrev pub StepKeepsValid : Type 0
StepKeepsValid = (d n : ℕ) → Dimension d → (ops : List Operation) (errors : List WeylError) (choices : List ℕ)
    → Accepted d n ops errors choices
    → (k : ℕ) → k < length ops → (st : State) → Valid d n st.rows → Valid d n (direct_step d n ops errors choices k st).rows

abbrev pub RunKeepsValid : Type 0
RunKeepsValid = (d n : ℕ) → Dimension d → (ops : List Operation) (errors : List WeylError) (choices : List ℕ)
    → Accepted d n ops errors choices
    → (st : State) → Valid d n st.rows → Valid d n (direct_run d n ops errors choices st).rows

-- The frame run keeps it too, from any starting frame F.
abbrev pub FrameKeepsValid : Type 0
FrameKeepsValid = (d n : ℕ) → Dimension d → (ops : List Operation) (errors : List WeylError) (choices F : List ℕ)
    → Accepted d n ops errors choices
    → (st : State) → Valid d n st.rows → (shifts frame : List ℕ) → Valid d n (frame_run_from d n ops errors choices F st shifts frame).rows

-- A reset leaves its qudit at level 0: a look at it is then certain, with outcome 0.
abbrev pub ResetClears : Type 0
ResetClears = (d n : ℕ) → Dimension d → (choices : List ℕ) (c q : ℕ) (t : List ℕ) → Valid d n t → q < n → get_or choices c 0 < d
    → look d n (reset_rows d n choices c q t (look d n t q)) q ≡ Certain 0

-- The needed bytes of the tableaus, and the two bytes per measurement, are equal.
pub record Agree (n measurements : ℕ) (direct : State) (framed : FrameEnd) : Type 0 where
  pub tableau : (i : ℕ) → i < 2 * n * (2 * n + 1) → get_or direct.rows i 0 ≡ get_or framed.rows i 0
  pub results : (i : ℕ) → i < 2 * measurements → get_or direct.results i 0 ≡ get_or framed.results i 0

-- The direct run of the raised choices and the frame run of the choices, each on its own copy of a valid tableau.
abbrev pub RunsAgree : Type 0
RunsAgree = (d n : ℕ) → Dimension d → (ops : List Operation) (errors : List WeylError) (choices : List ℕ)
    → Accepted d n ops errors choices
    → (t t' results results' shifts frame : List ℕ)
    → Valid d n t
    → 2 * n * (2 * n + 1) ≤ length t'
    → ((i : ℕ) → i < 2 * n * (2 * n + 1) → get_or t' i 0 ≡ get_or t i 0)
    → 2 * measured ops (length ops) ≤ length results
    → 2 * measured ops (length ops) ≤ length results'
    → Agree n (measured ops (length ops))
    (direct_run d n ops errors (raised d n ops errors (no_frame n) choices) (record { rows = t'; results = results' }))
    (frame_run d n ops errors choices (record { rows = t; results = results }) shifts frame)

-- The same from any starting frame F: the direct run then starts from the rows shifted by F.
abbrev pub RunsAgreeFrom : Type 0
RunsAgreeFrom = (d n : ℕ) → Dimension d → (ops : List Operation) (errors : List WeylError) (choices F : List ℕ)
    → Accepted d n ops errors choices → Powers d n F → length F ≡ 2 * n
    → (t results shifts frame : List ℕ)
    → Valid d n t
    → Agree n (measured ops (length ops))
    (direct_run d n ops errors (raised d n ops errors F choices) (record { rows = shift_rows d n F t; results = results }))
    (frame_run_from d n ops errors choices F (record { rows = t; results = results }) shifts frame)

-- The frame run is the clean run, without errors, with the frame carried to the end: each result has its shift, and the final frame is
-- added to the rows, gives the shifts and the verdict.
abbrev pub FrameIsClean : Type 0
FrameIsClean = (d n : ℕ) (ops : List Operation) (errors : List WeylError) (choices F : List ℕ) (st : State) (shifts frame : List ℕ)
    → 0 < d
    → 2 * measured ops (length ops) ≤ length st.results
    → frame_run_from d n ops errors choices F st shifts frame
    ≡ frame_leaves d n ops errors choices shifts frame (clean_carried d n ops errors F (direct_run d n ops [] choices st))

-- The verdict of a frame on a valid tableau is clean exactly if the rows shifted by it have the same stabilizer set.
abbrev pub CleanRows : Type 0
CleanRows = (d n : ℕ) → Dimension d → (t F : List ℕ) → Valid d n t
    → (verdict_of d n F t ≡ 0) ↔ SameSet d n (shift_rows d n F t) t

-- So the verdict of a frame run, from any starting frame F, is clean exactly if it, and a direct run without the errors from the
-- same start, end with the same stabilizer set.
abbrev pub CleanLists : Type 0
CleanLists = (d n : ℕ) → Dimension d → (ops : List Operation) (errors : List WeylError) (choices F : List ℕ)
    → Accepted d n ops errors choices
    → (st : State) → Valid d n st.rows → (shifts frame : List ℕ)
    → 2 * measured ops (length ops) ≤ length st.results
    → let framed = frame_run_from d n ops errors choices F st shifts frame in
    (framed.verdict ≡ 0) ↔ SameSet d n framed.rows (direct_run d n ops [] choices st).rows
