-- Tableaus of one qutrit, and what a look at them tells: antt computes each.
-- Assumes nothing.
use mathlib.Core.Path.{◌≡◌, refl}
use mathlib.Core.List.{List, [], ◌∷◌}
use Prim.Native.Nat.{ℕ}
use lib.ListN.{set}
use Rattle.modular.specs.Dimension.{listed}
use Rattle.search.specs.Search.{all, first_not}
use Rattle.row.specs.Row.{tab, row_of, dot, product, power, pairing}
use Rattle.row_laws.specs.Scalar.{scalar}
use Rattle.tableau.specs.Tableau.{part}
use Rattle.validity.specs.Validity.{row_valid, valid}
use Rattle.saved_tableau.specs.Saved.{self_valid}
use Rattle.saved_tableau.specs.Test.{test_number}
use Rattle.measurement.specs.Look.{pivot_of, combination, weighted, look}
use Rattle.look_call.specs.LookBytes.{look_refused, look_bytes}

-- level 0, level 2, and level 0 after Fourier
abbrev level_0 : List ℕ
level_0 = 3 ∷ 1 ∷ 1 ∷ 0 ∷ 0 ∷ 0 ∷ 1 ∷ 0 ∷ []

abbrev level_2 : List ℕ
level_2 = 3 ∷ 1 ∷ 1 ∷ 0 ∷ 0 ∷ 0 ∷ 1 ∷ 1 ∷ []

abbrev spread : List ℕ
spread = 3 ∷ 1 ∷ 0 ∷ 1 ∷ 0 ∷ 2 ∷ 0 ∷ 0 ∷ []

-- two qutrits, the second after Fourier: the first stabilizer with an X power there is stabilizer 1
abbrev second-spread : List ℕ
second-spread = 3 ∷ 2 ∷ 1 ∷ 0 ∷ 0 ∷ 0 ∷ 0 ∷ 0 ∷ 0 ∷ 0 ∷ 1 ∷ 0 ∷ 0 ∷ 0 ∷ 1 ∷ 0 ∷ 0 ∷ 0 ∷ 2 ∷ 0 ∷ 0 ∷ 0 ∷ []

-- Certain 0, certain 2, free; 13 for a qudit that isn't there, however large its number; 9 comes before it, and 8, 3
-- and 2 before that. The pivot of a free look is not told.
seen :
    (look_bytes level_0 0 ≡ record { number = 0; free = 0; outcome = 0 })
    × (look_bytes level_2 0 ≡ record { number = 0; free = 0; outcome = 2 })
    × (look_bytes spread 0 ≡ record { number = 0; free = 1; outcome = 0 })
    × (look_bytes level_0 1 ≡ look_refused 13)
    × (look_bytes level_0 256 ≡ look_refused 13)
    × (look_bytes (set level_0 2 2) 1 ≡ look_refused 9)
    × (look_bytes (3 ∷ []) 1 ≡ look_refused 8)
    × (look_bytes (4 ∷ 1 ∷ 1 ∷ 0 ∷ 0 ∷ 0 ∷ 1 ∷ 0 ∷ []) 0 ≡ look_refused 2)
    × (look_bytes (3 ∷ 0 ∷ []) 0 ≡ look_refused 3)
    × (look_bytes (3 ∷ 1 ∷ 1 ∷ []) 1 ≡ look_refused 8)
    × (look_bytes second-spread 1 ≡ record { number = 0; free = 1; outcome = 0 })
unfolding look_bytes test_number listed self_valid valid row_valid all pairing dot part look pivot_of first_not combination weighted product power scalar row_of tab
seen = (refl, refl, refl, refl, refl, refl, refl, refl, refl, refl, refl)
