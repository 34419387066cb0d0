-- The errors of one place, among errors whose places never fall.
use Rattle.std.specs.Prelude.{◌≡◌, List, ℕ, ◌<◌, ◌≤◌, length}
use Rattle.operation.specs.declared.WeylError.{WeylError}
use Rattle.circuit.specs.Circuit.{err_at}

abbrev pub NeverFall : List WeylError → Type 0
NeverFall errors = (i j : ℕ) → i ≤ j → j < length errors → (err_at errors i).place ≤ (err_at errors j).place

-- entries i to e − 1 are errors of place k
abbrev pub OfPlace : List WeylError → (k i e : ℕ) → Type 0
OfPlace errors k i e = (j : ℕ) → i ≤ j → j < e → (err_at errors j).place ≡ k
