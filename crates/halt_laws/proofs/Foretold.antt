-- The next operation gives what the look told, if it measures that qudit and no error is placed before it.
-- Assumes nothing.
use mathlib.Core.Path.{◌≡◌, refl}
use mathlib.Core.Logic.{◌≢◌}
use mathlib.Core.List.{List}
use Prim.Native.Nat.{ℕ, zero, suc, ◌+◌, ◌-◌, ◌<◌}
use native.Mathlib.Nat.{add-zero}
use native.Mathlib.Omega.{arith}
use lib.ListN.{length}
use borrow.Author.Tests.{ltb-true}
use Rattle.operation.specs.declared.Operation.{Operation}
use Rattle.operation.specs.declared.WeylError.{WeylError}
use Rattle.circuit.specs.Circuit.{op_at, err_at, measured, chosen}
use Rattle.saved_tableau.specs.Saved.{rows_in}
use Rattle.book.specs.Decoded.{ops_in, errors_in, choices_in}
use Rattle.book.proofs.Meaning.{accepted-means}
use Rattle.measurement.specs.Look.{look}
use Rattle.runs.specs.Run.{steps_from}
use Rattle.runs.specs.Direct.{state_of, errors_on_rows, direct_operation, direct_errors, direct_step}
use Rattle.runs.proofs.Taken.{rows_taken, taken_skip}
use Rattle.halts.specs.Halt.{next_of, direct_to, direct_from}
use Rattle.halts.proofs.Numbers.{next-halted}
use Rattle.halts.proofs.Stages.{stage-step}
use Rattle.direct_book.specs.Passes.{Passes}
use Rattle.halt_laws.specs.Looking.{LookForetells}
use Rattle.halt_laws.proofs.Calls.{one_call, looks-at}
use Rattle.halt_laws.proofs.Looks.{told-by}

module _ (d n : ℕ) (ops : List Operation) (errors : List WeylError) (choices : List ℕ) (k : ℕ) (t results : List ℕ) where
  -- one operation from number k is step k
  one-step : k < length ops → direct_from d n ops errors choices k 1 (state_of t results) ≡ direct_step d n ops errors choices k (state_of t results)
  unfolding direct_to steps_from
  one-step l =
      let q : next_of (length ops) k 1 - k ≡ suc zero = omega (arith, next-halted (length ops) k 1 (omega arith)) in
      rw (q, add-zero k) (stage-step d n ops errors choices k (state_of t results) l)

  -- without errors before it, it is its operation
  alone : ((j : ℕ) → j < length errors → (err_at errors j).place ≢ k)
      → direct_step d n ops errors choices k (state_of t results) ≡ direct_operation d n choices (chosen ops k) (measured ops k) (state_of t results) (op_at ops k)
  unfolding direct_step direct_errors errors_on_rows
  alone none =
      let q : 0 + length errors ≡ length errors = omega arith in
      rw (rw q at (taken_skip (rows_taken d n errors k t) 0 (length errors) (λ j a b. none j (omega arith))))

pub look_foretells : LookForetells
look_foretells s d n operations errors choices e t results room results-room for-book k qudit l op none =
    let g : Passes s t results d n operations errors choices = record { reads = e; room = room; results-room = results-room; for-book = for-book } in
    let m = accepted-means s d n operations errors choices e in
    let ops = ops_in s d n in
    let inside : k < length ops = omega (arith, m.operation_count) in
    let below : qudit < n = ltb-true qudit n (rw op at (m.lists.operations k inside)) in
    let seen = told-by d n (rows_in t) qudit (choices_in s) (chosen ops k) (measured ops k) results (look d n (rows_in t) qudit) refl in
    rw (
      one_call s t results g k 1 (omega arith),
      one-step d n ops (errors_in s) (choices_in s) k (rows_in t) results inside,
      alone d n ops (errors_in s) (choices_in s) k (rows_in t) results none,
      op,
      looks-at s t results g qudit below,
    )
    seen.0
