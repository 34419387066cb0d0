-- An accepted book supplies every operation with its choice, and enough room is room for every result.
-- Assumes nothing.
use mathlib.Core.Path.{◌≡◌}
use mathlib.Core.List.{List}
use Prim.Native.Nat.{ℕ, ◌+◌, ◌*◌, ◌<◌, ◌≤◌}
use native.Mathlib.Omega.{arith}
use lib.ListN.{length}
use Rattle.operation.specs.declared.Operation.{Operation}
use Rattle.operation.specs.declared.WeylError.{WeylError}
use Rattle.circuit.specs.Circuit.{op_at, tally, measured, choice_tally, chosen, Accepted}
use Rattle.runs.proofs.Results.{measured_in, chosen_in}
use Rattle.measure_step.specs.Supplied.{Supplied}

pub supplied : {d n : ℕ} {ops : List Operation} {errors : List WeylError} {choices : List ℕ} → Accepted d n ops errors choices
    → {c : ℕ} (k : ℕ) → k < length ops → c ≡ chosen ops k
    → Supplied d c (choice_tally (op_at ops k)) choices
supplied {ops = ops} a k l e =
    record {
      enough = omega (arith, e, chosen_in ops k l, a.one_each);
      below = λ i _ m. a.below i (omega (arith, e, chosen_in ops k l, a.one_each));
    }

pub roomy : (ops : List Operation) (results : List ℕ) → 2 * measured ops (length ops) ≤ length results
    → {j : ℕ} (k : ℕ) → k < length ops → j ≡ measured ops k
    → 2 * (j + tally (op_at ops k)) ≤ length results
roomy ops results room k l e = omega (arith, e, measured_in ops k l, room)
