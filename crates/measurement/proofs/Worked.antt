-- Worked measurements: antt computes each.
-- Assumes nothing.
use mathlib.Core.Path.{◌≡◌, refl}
use mathlib.Core.List.{List, [], ◌∷◌}
use Prim.Native.Nat.{ℕ}
use Rattle.modular.specs.Dimension.{inverse, power_of}
use Rattle.row.specs.Row.{tab, row_of, dot, product, power}
use Rattle.row.specs.Generators.{z_with}
use Rattle.row_laws.specs.Scalar.{scalar}
use Rattle.search.specs.Search.{first_not}
use Rattle.tableau.specs.Tableau.{part, put, each_row}
use Rattle.measurement.specs.declared.Look.TheVariants.{Free, Certain}
use Rattle.measurement.specs.Look.{pivot_of, combination, weighted, look}
use Rattle.measurement.specs.Collapse.{collapse_row, collapse}

-- d = 3: the stabilizer ωZ fixes the outcome −1
certain : look 3 1 (1 ∷ 0 ∷ 0 ∷ 0 ∷ 1 ∷ 1 ∷ []) 0 ≡ Certain 2
unfolding look pivot_of first_not weighted combination scalar part product power row_of tab dot
certain = refl

-- d = 5, three qudits: stabilizers 0 and 1 have an X power on qudit 2, and the lower one is the pivot, with e = 2 and 1/e = 3
abbrev before : List ℕ
before =
    0 ∷ 0 ∷ 0 ∷ 2 ∷ 0 ∷ 0 ∷ 4
    ∷ 0 ∷ 0 ∷ 0 ∷ 0 ∷ 3 ∷ 0 ∷ 2
    ∷ 0 ∷ 0 ∷ 1 ∷ 0 ∷ 0 ∷ 1 ∷ 0
    ∷ 2 ∷ 0 ∷ 2 ∷ 0 ∷ 0 ∷ 2 ∷ 3
    ∷ 0 ∷ 3 ∷ 3 ∷ 0 ∷ 0 ∷ 3 ∷ 3
    ∷ 0 ∷ 0 ∷ 0 ∷ 4 ∷ 4 ∷ 1 ∷ 4 ∷ []

lowest : look 5 3 before 2 ≡ Free 0
unfolding look pivot_of first_not part
lowest = refl

-- with choice 1
after : collapse 5 3 2 0 1 before
    ≡ 1 ∷ 0 ∷ 1 ∷ 0 ∷ 0 ∷ 1 ∷ 1
    ∷ 0 ∷ 0 ∷ 0 ∷ 0 ∷ 3 ∷ 0 ∷ 2
    ∷ 4 ∷ 0 ∷ 0 ∷ 0 ∷ 0 ∷ 0 ∷ 4
    ∷ 0 ∷ 0 ∷ 0 ∷ 0 ∷ 0 ∷ 1 ∷ 4
    ∷ 2 ∷ 3 ∷ 0 ∷ 0 ∷ 0 ∷ 0 ∷ 2
    ∷ 0 ∷ 0 ∷ 0 ∷ 4 ∷ 4 ∷ 1 ∷ 4 ∷ []
unfolding collapse collapse_row z_with inverse power_of each_row part put product power row_of tab dot
after = refl
