-- An accepted book as lists of operations, errors and choices.
use Rattle.std.specs.Prelude.{◌≡◌, true, List, ℕ, ◌/◌, ◌≤◌, length, Option, Some, None}
use Rattle.modular.specs.Dimension.{listed}
use Rattle.row.specs.Row.{tab}
use Rattle.tableau.specs.Tableau.{sized}
use Rattle.operation.specs.declared.Operation.{Operation}
use Rattle.operation.specs.declared.Operation.TheVariants.{Swap}
use Rattle.operation.specs.declared.WeylError.{WeylError}
use Rattle.circuit.specs.Circuit.{measured, chosen, Accepted}
use Rattle.book_entries.specs.Entry.{operation_at, error_at}
use Rattle.book_body.specs.Body.{measurements, choice_takers, accepted}
use Rattle.book.specs.Book.{read_book, dimension_of, qudits_of, body_of}

-- the operation of an entry; for a bad one, one that is never allowed
abbrev pub operation_in : Option Operation → Operation
operation_in (Some op) = op
operation_in None = Swap 0 0

abbrev pub operation_of : ℕ → ℕ → List ℕ → ℕ → Operation
operation_of d n ops k = operation_in (operation_at d n ops k)

unfoldable pub operations_of : ℕ → ℕ → List ℕ → List Operation
operations_of d n ops = tab (operation_of d n ops) (length ops / 4)

unfoldable pub errors_of : List ℕ → List WeylError
errors_of errors = tab (error_at errors) (length errors / 5)

-- A book's operations, errors and choices, and how many of its operations are measurements.
abbrev pub ops_in : List ℕ → ℕ → ℕ → List Operation
ops_in s d n = operations_of d n (body_of s 1)

abbrev pub errors_in : List ℕ → List WeylError
errors_in s = errors_of (body_of s 2)

abbrev pub choices_in : List ℕ → List ℕ
choices_in s = body_of s 3

abbrev pub measurements_in : List ℕ → ℕ → ℕ → ℕ
measurements_in s d n = measured (ops_in s d n) (length (ops_in s d n))

-- The three bodies of a book of n qudits of dimension d that none of 1 to 7 refuses, as a run is handed them.
pub record Bodies (d n : ℕ) (ops errors choices : List ℕ) : Type 0 where
  pub dimension : listed d ≡ true
  pub qudits : n ≤ 64
  pub lists : Accepted d n (operations_of d n ops) (errors_of errors) choices
  pub few : length choices ≤ 4096

-- What the reader's answer says of the lists: its numbers are theirs, and they are what 2, 3 and 5 to 7 let through.
pub record Means (s : List ℕ) (d n operations errors choices : ℕ) : Type 0 where
  pub dimension : dimension_of s ≡ d
  pub dimension-listed : listed d ≡ true
  pub qudits : qudits_of s ≡ n
  pub qudits-sized : sized n ≡ true
  pub operation_count : length (operations_of d n (body_of s 1)) ≡ operations
  pub error-count : length (errors_of (body_of s 2)) ≡ errors
  pub choice-count : length (body_of s 3) ≡ choices
  pub choices-taken : chosen (operations_of d n (body_of s 1)) operations ≡ choices
  pub taker_count : choice_takers (body_of s 1) operations ≡ choices
  pub measurement-count : measured (operations_of d n (body_of s 1)) operations ≡ measurements (body_of s 1) operations
  pub lists : Accepted d n (operations_of d n (body_of s 1)) (errors_of (body_of s 2)) (body_of s 3)

abbrev pub AcceptedMeans : Type 0
AcceptedMeans = (s : List ℕ) (d n operations errors choices : ℕ) → read_book s ≡ accepted d n operations errors choices
    → Means s d n operations errors choices
