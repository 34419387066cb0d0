-- Places never fall, so the first entry that is left begins all that are left.
-- Assumes nothing.
use mathlib.Core.Path.{◌≡◌}
use mathlib.Core.List.{List}
use Prim.Native.Nat.{ℕ, ◌+◌, ◌<◌, ◌≤◌}
use native.Mathlib.Decide.{ℕ_discrete}
use native.Mathlib.Omega.{arith}
use lib.ListN.{length}
use Rattle.operation.specs.declared.WeylError.{WeylError}
use Rattle.circuit.specs.Circuit.{err_at, ErrorsInOrder}
use Rattle.runs.specs.Reached.{Reached}

-- every entry before j has a place below k
pub record Spent (errors : List WeylError) (j k : ℕ) : Type 0 where
  pub below : (i : ℕ) → i < j → (err_at errors i).place < k

module _ {errors : List WeylError} {k : ℕ} where
  pub spent-none : Spent errors 0 k
  spent-none = record { below = λ i l. absurd (omega arith) }

  pub spent-more : {j : ℕ} → Spent errors j k → (err_at errors j).place < k → Spent errors (j + 1) k
  spent-more {j} s e = record { below = λ i l. by i l (ℕ_discrete i j) }
    where
      by : (i : ℕ) → i < j + 1 → Dec (i ≡ j) → (err_at errors i).place < k
      by i l (yes q) = rw q e
      by i l (no q) = s.below i (omega arith)

  -- an entry of place k or later is the first of all that are left, since places never fall; or there is none
  pub first-left : {d n j : ℕ} → ErrorsInOrder d n errors → Spent errors j k → j ≤ length errors → k ≤ (err_at errors j).place → Reached errors j k
  first-left {d} {n} {j} order s l e =
      record { inside = l; spent = s.below; left = λ i m h. omega (arith, e, order.in_order j i m h) }

  pub first-none : {j : ℕ} → Spent errors j k → j ≡ length errors → Reached errors j k
  first-none s e = record { inside = omega arith; spent = s.below; left = λ i m h. absurd (omega arith) }
