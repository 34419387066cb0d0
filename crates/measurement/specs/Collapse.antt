-- The rows after a free measurement of qudit q with choice m.
use Rattle.std.specs.Prelude.{cond, List, ℕ, ◌+◌, ◌*◌, ◌%◌, eqb}
use Rattle.modular.specs.Modular.{neg}
use Rattle.modular.specs.Dimension.{inverse}
use Rattle.row.specs.Row.{x_of, product, power}
use Rattle.row.specs.Generators.{z_with}
use Rattle.tableau.specs.Tableau.{row, on_rows}

-- Row i by the pivot, stabilizer k, whose a_q is e. Every other row, destabilizers included except destabilizer k, becomes itself
-- times (stabilizer k) to the power −f/e, f being that row's own a_q. Destabilizer k becomes stabilizer k to the power 1/e.
-- Stabilizer k becomes Z on q with phase −m.
unfoldable pub collapse_row : ℕ → ℕ → ℕ → ℕ → ℕ → List ℕ → ℕ → List ℕ → List ℕ
collapse_row d n q k m pivot i v =
    cond (eqb i k) (power d n (inverse d (x_of pivot q)) pivot)
    (cond (eqb i (n + k)) (z_with n q (neg d m))
    (product d n v (power d n (neg d (x_of v q) * inverse d (x_of pivot q) % d) pivot)))

unfoldable pub collapse : ℕ → ℕ → ℕ → ℕ → ℕ → List ℕ → List ℕ
collapse d n q k m t = on_rows n (collapse_row d n q k m (row n t (n + k))) t
