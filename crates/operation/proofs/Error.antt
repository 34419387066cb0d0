-- What an error keeps: the length, rows, tableaus, powers below d. The worked cases are named so that they are checked first.
-- Assumes nothing.
use mathlib.Core.Path.{◌≡◌, ◌∙◌}
use mathlib.Core.Bool.{true}
use mathlib.Core.List.{List}
use Prim.Native.Nat.{ℕ, ◌+◌, ◌*◌, ◌<◌}
use native.Mathlib.Nat.{mod-lt}
use lib.ListN.{length, length-set}
use borrow.Author.Tests.{lt-ltb}
use Rattle.modular.specs.Modular.{neg}
use Rattle.row.specs.Row.{Powers, Row}
use Rattle.row.proofs.Laws.{powers_of}
use Rattle.tableau.specs.Tableau.{every}
use Rattle.tableau.proofs.Parts.{Keeps}
use Rattle.operation.specs.declared.WeylError.{WeylError}
use Rattle.operation.specs.Error.{error_allowed, error_row, error_frame, minus_x}
use Rattle.operation.proofs.Stores.{powers_store, row-phase}

module _ (d n : ℕ) (e : WeylError) where
  pub error-row-length : (v : List ℕ) → length (error_row d n e v) ≡ length v
  unfolding error_row
  error-row-length v = length-set v (2 * n) _

  pub error-keeps : Keeps (2 * n + 1) (every (error_row d n e))
  error-keeps = record { keeps = λ i v l. error-row-length v ∙ l }

  pub error-frame-length : (F : List ℕ) → length (error_frame d n e F) ≡ length F
  unfolding error_frame
  error-frame-length F = simp length-set

  pub error-row : (v : List ℕ) → 0 < d → Row d n v → Row d n (error_row d n e v)
  unfolding error_row
  error-row v low r = row-phase (powers_of r) r.len (mod-lt _ low)

  pub error-powers : (F : List ℕ) → 0 < d → Powers d n F → Powers d n (error_frame d n e F)
  unfolding error_frame
  error-powers F low p = powers_store _ (powers_store _ p (mod-lt _ low)) (mod-lt _ low)

-- X to the minus r is an error like any other.
pub minus-allowed : (d n q r : ℕ) → 0 < d → q < n → error_allowed d n (minus_x d q r) ≡ true
minus-allowed d n q r low l = rw (lt-ltb q n l, lt-ltb (neg d r) d (mod-lt _ low), lt-ltb 0 d low)
