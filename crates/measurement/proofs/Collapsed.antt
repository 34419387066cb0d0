-- Rows after a free measurement are rows.
-- Assumes nothing.
use mathlib.Core.Bool.{Bool, true, false, cond}
use mathlib.Core.List.{List}
use Prim.Native.Nat.{ℕ, ◌+◌, ◌*◌, ◌<◌}
use native.Mathlib.Omega.{arith}
use lib.Dec.{eqb}
use Rattle.modular.proofs.Residue.{neg-less}
use Rattle.row.specs.Row.{Row}
use Rattle.row.specs.Generators.{z_with}
use Rattle.row.proofs.Laws.{product-row, power-row, unit_row}
use Rattle.tableau.proofs.Parts.{Keeps}
use Rattle.measurement.specs.Collapse.{collapse_row}

either : {d n : ℕ} {v w : List ℕ} (b : Bool) → Row d n v → Row d n w → Row d n (cond b v w)
either true p q = p
either false p q = q

module _ (d n q k m : ℕ) (pivot : List ℕ) (h : 1 < d) where
  p : 0 < d
  p = omega arith

  pub collapsed : (i : ℕ) (v : List ℕ) → Row d n (collapse_row d n q k m pivot i v)
  unfolding collapse_row z_with
  collapsed i v =
      either (eqb i k) (power-row d n _ pivot p)
      (either (eqb i (n + k)) (unit_row d n (n + q) _ h (neg-less d _ p)) (product-row d n v _ p))

  pub collapsed-keeps : Keeps (2 * n + 1) (collapse_row d n q k m pivot)
  collapsed-keeps = record { keeps = λ i v e. (collapsed i v).len }
