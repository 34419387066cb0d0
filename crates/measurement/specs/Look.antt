-- The look at qudit q: is its measurement free, or certain with which outcome?
use Rattle.std.specs.Prelude.{Bool, List, ℕ, zero, suc, ◌+◌, eqb, Option, Some, None}
use Rattle.modular.specs.Modular.{neg}
use Rattle.row.specs.Row.{x_of, phase_of, product, power}
use Rattle.row_laws.specs.Scalar.{scalar}
use Rattle.search.specs.Search.{first_not}
use Rattle.tableau.specs.Tableau.{row}
use Rattle.measurement.specs.declared.Look.{Look}
use Rattle.measurement.specs.declared.Look.TheVariants.{Free, Certain}

-- the X power on q of destabilizer i, and of stabilizer i
abbrev pub destabilizer_power : ℕ → List ℕ → ℕ → ℕ → ℕ
destabilizer_power n t q i = x_of (row n t i) q

abbrev pub stabilizer_power : ℕ → List ℕ → ℕ → ℕ → ℕ
stabilizer_power n t q i = x_of (row n t (n + i)) q

-- Free if some stabilizer has a_q ≠ 0: the lowest such.
abbrev pub commutes : ℕ → List ℕ → ℕ → ℕ → Bool
commutes n t q k = eqb (stabilizer_power n t q k) 0

unfoldable pub pivot_of : ℕ → List ℕ → ℕ → Option ℕ
pivot_of n t q = first_not (commutes n t q) n

-- the product, in order of i, of the first k stabilizers, stabilizer i to the power h i
unfoldable pub combination : ℕ → ℕ → List ℕ → (ℕ → ℕ) → ℕ → List ℕ
combination d n t h zero = scalar n 0
combination d n t h (suc i) = product d n (combination d n t h i) (power d n (h i) (row n t (n + i)))

-- Otherwise certain: the product, in order of i, of stabilizer i to the power a_q of destabilizer i is Z on q with some phase r;
-- the outcome is −r.
unfoldable pub weighted : ℕ → ℕ → List ℕ → ℕ → List ℕ
weighted d n t q = combination d n t (destabilizer_power n t q) n

abbrev pub look_by : ℕ → ℕ → List ℕ → ℕ → Option ℕ → Look
look_by d n t q (Some k) = Free k
look_by d n t q None = Certain (neg d (phase_of n (weighted d n t q)))

unfoldable pub look : ℕ → ℕ → List ℕ → ℕ → Look
look d n t q = look_by d n t q (pivot_of n t q)
