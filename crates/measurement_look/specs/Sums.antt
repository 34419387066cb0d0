-- A certain outcome as one sum over the stabilizers, whose rest is taken once.
use Rattle.std.specs.Prelude.{List, ℕ, zero, suc, ◌+◌, ◌-◌, ◌*◌, ◌/◌, ◌%◌}
use Rattle.row.specs.Row.{phase_of, dot}
use Rattle.tableau.specs.Tableau.{row}
use Rattle.measurement.specs.Look.{destabilizer_power}

-- h·(Σ a·b − 2r) of a row, with 2d added to the difference so that it is not below 0
unfoldable pub phase_term : ℕ → ℕ → ℕ → List ℕ → ℕ
phase_term d n h v = h * (dot n v v n + 2 * (d - phase_of n v))

-- the sum over the first k stabilizers, h i for stabilizer i
unfoldable pub phase_sum : ℕ → ℕ → List ℕ → (ℕ → ℕ) → ℕ → ℕ
phase_sum d n t h zero = 0
phase_sum d n t h (suc i) = phase_sum d n t h i + phase_term d n (h i) (row n t (n + i))

-- half the sum over all stabilizers, each with the X power on q of its destabilizer; modulo an odd d, ½ is d/2 + 1
abbrev pub half_phase_sum : ℕ → ℕ → List ℕ → ℕ → ℕ
half_phase_sum d n t q = phase_sum d n t (destabilizer_power n t q) n * (d / 2 + 1) % d
