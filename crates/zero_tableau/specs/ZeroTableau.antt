-- The rows of the zero tableau.
use Rattle.std.specs.Prelude.{List, ℕ}
use Rattle.row.specs.Row.{row_of}
use Rattle.row.specs.Generators.{unit}
use Rattle.tableau.specs.Tableau.{on_rows}

-- Zero tableau: destabilizer i is X on qudit i, stabilizer i is Z on it, phases 0. So row i has power 1 at i, and else 0.
abbrev pub zero_row : ℕ → ℕ → List ℕ → List ℕ
zero_row n i v = row_of n (unit i) 0

unfoldable pub zero_tableau : ℕ → List ℕ → List ℕ
zero_tableau n t = on_rows n (zero_row n) t
