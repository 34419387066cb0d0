-- What an accepted book holds: operations, errors and choices, as lists.
use Rattle.std.specs.Prelude.{◌≡◌, true, List, ℕ, zero, suc, ◌+◌, ◌<◌, ◌≤◌, length, get_or}
use Rattle.operation.specs.declared.Operation.{Operation}
use Rattle.operation.specs.declared.Operation.TheVariants.{Fourier, PhaseGate, Sum, Cz, Swap, Multiplier, Measure, Reset, Correct}
use Rattle.operation.specs.declared.WeylError.{WeylError}
use Rattle.operation.specs.Operation.{allowed, named}
use Rattle.operation.specs.Error.{error_allowed}

-- operation k and error j; past the end of a list, where nobody looks, some value
abbrev pub op_at : List Operation → ℕ → Operation
op_at ops k = get_or ops k (Measure 0)

abbrev pub err_at : List WeylError → ℕ → WeylError
err_at errors j = get_or errors j (record { place = 0; qudit = 0; p = 0; s = 0 })

-- a gate, a measurement of a qudit, a reset of a qudit, or the correction of qudit t by the result of measurement m
pub data Kind : Type 0 where
  gate : Kind
  measures : (q : ℕ) → Kind
  resets : (q : ℕ) → Kind
  corrects : (t m : ℕ) → Kind

abbrev pub kind : Operation → Kind
kind (Fourier q k) = gate
kind (PhaseGate q k) = gate
kind (Sum c t k) = gate
kind (Cz c t k) = gate
kind (Swap c t) = gate
kind (Multiplier q u) = gate
kind (Measure q) = measures q
kind (Reset q) = resets q
kind (Correct t m) = corrects t m

abbrev pub tally_kind : Kind → ℕ
tally_kind gate = 0
tally_kind (measures q) = 1
tally_kind (resets q) = 0
tally_kind (corrects t m) = 0

-- 1 for a measurement, else 0
abbrev pub tally : Operation → ℕ
tally op = tally_kind (kind op)

-- the measurements among the first k operations
unfoldable pub measured : List Operation → ℕ → ℕ
measured ops zero = 0
measured ops (suc k) = measured ops k + tally (op_at ops k)

-- the measurements among all operations
abbrev pub measurement_count : List Operation → ℕ
measurement_count ops = measured ops (length ops)

-- Choices are counted over codes 6 and 7: 1 for an operation that takes one, else 0.
abbrev pub choice_kind : Kind → ℕ
choice_kind gate = 0
choice_kind (measures q) = 1
choice_kind (resets q) = 1
choice_kind (corrects t m) = 0

abbrev pub choice_tally : Operation → ℕ
choice_tally op = choice_kind (kind op)

-- the choices that the first k operations take
unfoldable pub chosen : List Operation → ℕ → ℕ
chosen ops zero = 0
chosen ops (suc k) = chosen ops k + choice_tally (op_at ops k)

-- the choices that all operations take
abbrev pub choice_count : List Operation → ℕ
choice_count ops = chosen ops (length ops)

-- Errors as a run takes them: each is allowed, and their places never fall.
pub record ErrorsInOrder (d n : ℕ) (errors : List WeylError) : Type 0 where
  pub each : (j : ℕ) → j < length errors → error_allowed d n (err_at errors j) ≡ true
  pub in_order : (i j : ℕ) → i ≤ j → j < length errors → (err_at errors i).place ≤ (err_at errors j).place

-- A book is accepted when none of 1 to 7 refuses it: what 5, 6 and 7 leave.
pub record Accepted (d n : ℕ) (ops : List Operation) (errors : List WeylError) (choices : List ℕ) : Type 0 where
  pub operations : (k : ℕ) → k < length ops → allowed d n (op_at ops k) ≡ true
  pub names : (k : ℕ) → k < length ops → named (measured ops k) (op_at ops k) ≡ true
  pub errors-in-order : ErrorsInOrder d n errors
  pub places : (j : ℕ) → j < length errors → (err_at errors j).place ≤ length ops
  pub one_each : length choices ≡ choice_count ops
  pub below : (j : ℕ) → j < length choices → get_or choices j 0 < d
