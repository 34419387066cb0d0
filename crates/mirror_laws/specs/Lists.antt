-- A run of a list of gates, and then of its mirror, over decoded lists. The statements are proved in proofs/.
use Rattle.std.specs.Prelude.{◌≡◌, List, [], ℕ, None}
use Rattle.modular.specs.Dimension.{Dimension}
use Rattle.operation.specs.declared.Operation.{Operation}
use Rattle.operation.specs.declared.WeylError.{WeylError}
use Rattle.validity.specs.Validity.{Valid}
use Rattle.circuit.specs.Circuit.{Accepted}
use Rattle.runs.specs.Direct.{state_of, direct_run}
use Rattle.runs.specs.Frame.{no_frame, shift_rows}
use Rattle.runs.specs.Raised.{final_frame}
use Rattle.mirror_book.specs.Mirrored.{mirrored}
use Rattle.mirror_book.specs.MirrorBook.{first_measurement}

-- The mirror of accepted gates is accepted, with no errors and no choices.
abbrev pub ListsAccepted : Type 0
ListsAccepted = (d n : ℕ) → Dimension d → (ops : List Operation) (errors : List WeylError) (choices : List ℕ)
    → Accepted d n ops errors choices → first_measurement ops ≡ None
    → Accepted d n (mirrored d ops) [] []

-- the rows after a run of the operations from the rows t, and then of their mirror, whatever the results' buffers hold
abbrev pub rows_after_both : (d n : ℕ) (ops : List Operation) (errors : List WeylError) (choices t results results' : List ℕ) → List ℕ
rows_after_both d n ops errors choices t results results' =
    (direct_run d n (mirrored d ops) [] []
    (state_of (direct_run d n ops errors choices (state_of t results)).rows results')).rows

-- Without errors each byte is back.
abbrev pub ListsReturn : Type 0
ListsReturn = (d n : ℕ) → Dimension d → (ops : List Operation) (choices : List ℕ)
    → Accepted d n ops [] choices → first_measurement ops ≡ None
    → (t results results' : List ℕ) → Valid d n t
    → rows_after_both d n ops [] choices t results results' ≡ t

-- With errors in the first run, each row's phase is shifted by its pairing with one frame: the errors carried through both.
abbrev pub ListsCarry : Type 0
ListsCarry = (d n : ℕ) → Dimension d → (ops : List Operation) (errors : List WeylError) (choices : List ℕ)
    → Accepted d n ops errors choices → first_measurement ops ≡ None
    → (t results results' : List ℕ) → Valid d n t
    → rows_after_both d n ops errors choices t results results'
    ≡ shift_rows d n (final_frame d n (mirrored d ops) [] (final_frame d n ops errors (no_frame n))) t
