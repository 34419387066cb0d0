-- A step of the direct run, from what its parts make.
-- Assumes nothing.
use mathlib.Core.Path.{◌≡◌}
use mathlib.Core.Bool.{true}
use mathlib.Core.List.{List}
use Prim.Native.Nat.{ℕ, ◌+◌, ◌*◌, ◌<◌}
use native.Mathlib.Omega.{arith}
use lib.ListN.{length, get_or}
use Rattle.operation.specs.declared.Operation.{Operation}
use Rattle.operation.specs.declared.WeylError.{WeylError}
use Rattle.operation.specs.Operation.{allowed}
use Rattle.operation.specs.Gate.{gate_rows}
use Rattle.circuit.specs.Circuit.{op_at, tally, measured, chosen}
use Rattle.book.specs.declared.bodies.Circuit.{Circuit}
use Rattle.book.specs.Circuits.{operation_list}
use Rattle.book.proofs.Circuits.{entry-inside}
use Rattle.operation_codes.proofs.Codes.{code-gate}
use Rattle.runs.specs.declared.Position.{Position}
use Rattle.runs.specs.Reached.{Reached, AtStep}
use Rattle.runs.specs.Direct.{State, state_of, errors_on_rows, direct_kind, direct_operation, direct_errors, direct_step}
use Rattle.runs.proofs.Results.{measured-step}

module _ (d n : ℕ) (ops : List Operation) (errors : List WeylError) (choices : List ℕ) where
  pub step_is :
      (k : ℕ) (t results : List ℕ) {c j : ℕ} {after-errors : List ℕ} {after : State} →
      c ≡ chosen ops k →
      j ≡ measured ops k →
      after-errors ≡ errors_on_rows d n errors k t (length errors) →
      after ≡ direct_operation d n choices c j (state_of after-errors results) (op_at ops k) →
      after ≡ direct_step d n ops errors choices k (state_of t results)
  unfolding direct_step direct_errors
  step_is k t results x m s e = rw (← x, ← m, ← s) e

-- an entry whose code is a gate's is done on the rows, and leaves the results
pub gate-is :
    (circuit : Circuit) (k : ℕ) (c j : ℕ) (t results : List ℕ) {t' : List ℕ} →
    k < length (operation_list circuit) →
    allowed circuit.d circuit.n (op_at (operation_list circuit) k) ≡ true →
    get_or circuit.ops.now (4 * k) 0 < 6 →
    t' ≡ gate_rows circuit.d circuit.n (op_at (operation_list circuit) k) t →
    state_of t' results ≡ direct_operation circuit.d circuit.n circuit.choices.now c j (state_of t results) (op_at (operation_list circuit) k)
unfolding direct_kind
gate-is circuit k c j t results inside fits low e =
    rw (code-gate circuit.d circuit.n circuit.ops.now k (entry-inside circuit k inside) fits low, e)

-- where a run stands after a step
pub next-step : {ops : List Operation} {errors : List WeylError} {k entry : ℕ} {at next : Position} → AtStep ops errors k at → Reached errors entry (k + 1)
    → next.entry ≡ entry
    → next.measurements ≡ at.measurements + tally (op_at ops k)
    → AtStep ops errors (k + 1) next
next-step {ops} {k = k} a r e m = record { reached = rw e r; count = omega (arith, m, a.count, measured-step ops k) }
