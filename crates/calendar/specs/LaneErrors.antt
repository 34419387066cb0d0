-- A lane's errors of one place.
use Rattle.std.specs.Prelude.{◌≡◌, ◌≢◌, List, ℕ, ◌+◌, ◌<◌, ◌≤◌, length, get_or}
use Rattle.operation.specs.declared.WeylError.{WeylError}
use Rattle.circuit.specs.Circuit.{ErrorsInOrder}
use Rattle.tableau.specs.Tableau.{part}
use Rattle.book.specs.Decoded.{errors_of}
use Rattle.runs.specs.Frame.{errors_on_frame}
use Rattle.lanes.specs.Lanes.{lane}
use Rattle.calendar.specs.declared.lane_errors.Span.{Span}

-- where lane l's errors lie
abbrev pub span_at : List Span → ℕ → Span
span_at spans l = get_or spans l (record { start = 0; size = 0 })

-- the bytes of lane l's errors, and the errors
abbrev pub body_at : List ℕ → List Span → ℕ → List ℕ
body_at tray spans l = part (span_at spans l).start (span_at spans l).size tray

abbrev pub errors_at : List ℕ → List Span → ℕ → List WeylError
errors_at tray spans l = errors_of (body_at tray spans l)

-- Lane l, which had the errors of place k up to entry i, has them all; the other lanes are as they were.
pub record ErrorsApplied (d n k l i : ℕ) (errors : List WeylError) (v w : List ℕ) : Type 0 where
  pub len : length w ≡ length v
  pub here : (F : List ℕ) → lane n v l ≡ errors_on_frame d n errors k F i → lane n w l ≡ errors_on_frame d n errors k F (length errors)
  pub others : (j : ℕ) → j < 256 → j ≢ l → lane n w j ≡ lane n v j

-- 256 lanes of a tray, each with a body of errors that a run can take
pub record LaneBodies (d n : ℕ) (tray : List ℕ) (spans : List Span) : Type 0 where
  pub inside : (l : ℕ) → l < 256 → (span_at spans l).start + (span_at spans l).size ≤ length tray
  pub errors-in-order : (l : ℕ) → l < 256 → ErrorsInOrder d n (errors_at tray spans l)
