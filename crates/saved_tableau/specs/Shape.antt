-- The tests of a lent tableau's shape, which the layer and the tableau test share.
use Rattle.std.specs.Prelude.{List, ℕ, leb, length}
use Rattle.modular.specs.Dimension.{listed}
use Rattle.search.specs.Search.{unless}
use Rattle.tableau.specs.Tableau.{sized}
use Rattle.saved_tableau.specs.Saved.{tableau_bytes}

-- 2, 3 and 8 of a tableau of n qudits of dimension d in a lent buffer; where none refuses, the rest.
abbrev pub shape_number : ℕ → ℕ → List ℕ → ℕ → ℕ
shape_number d n t rest = unless (listed d) 2 (unless (sized n) 3 (unless (leb (tableau_bytes n) (length t)) 8 rest))
