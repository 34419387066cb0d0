-- The starred cases, computed from the definitions. Rows are (a, b, r); n = 1 and d = 3 unless said.
-- Assumes nothing.
use mathlib.Core.Path.{◌≡◌, refl}
use mathlib.Core.List.{List, [], ◌∷◌}
use Prim.Native.Nat.{ℕ}
use Rattle.modular.specs.Dimension.{inverse, power_of}
use Rattle.row.specs.Row.{tab, row_of, dot, product, power}
use Rattle.operation.specs.declared.Operation.TheVariants.{Fourier, PhaseGate, Cz, Multiplier, Measure}
use Rattle.operation.specs.Gate.{gate_powers, gate_phase, gate_row}
use Rattle.operation.specs.Error.{error_row}
use Rattle.row.specs.Generators.{z_with}
use Rattle.row_laws.specs.Scalar.{scalar}
use Rattle.search.specs.Search.{first_not}
use Rattle.tableau.specs.Tableau.{part, put, each_row}
use Rattle.zero_tableau.specs.ZeroTableau.{zero_tableau}
use Rattle.circuit.specs.Circuit.{measured, chosen}
use Rattle.measurement.specs.Look.{pivot_of, combination, weighted, look}
use Rattle.measurement.specs.Collapse.{collapse_row, collapse}
use Rattle.runs.specs.Run.{steps_from, with_result}
use Rattle.runs.specs.Direct.{State, errors_on_rows, direct_look, direct_kind, direct_errors, direct_step, direct_run}

-- ★1 Fourier: (1,1,0) gives (2,1,2).
fourier : gate_row 3 1 (Fourier 0 1) (1 ∷ 1 ∷ 0 ∷ []) ≡ 2 ∷ 1 ∷ 2 ∷ []
unfolding gate_row gate_powers gate_phase
fourier = refl

-- ★2 Phase gate: (2,0,0) gives (2,2,1).
phase-gate : gate_row 3 1 (PhaseGate 0 1) (2 ∷ 0 ∷ 0 ∷ []) ≡ 2 ∷ 2 ∷ 1 ∷ []
unfolding gate_row gate_powers gate_phase
phase-gate = refl

-- ★3 CZ, n = 2: X on both gives X, Z on both, phase 1.
cz : gate_row 3 2 (Cz 0 1 1) (1 ∷ 1 ∷ 0 ∷ 0 ∷ 0 ∷ []) ≡ 1 ∷ 1 ∷ 1 ∷ 1 ∷ 1 ∷ []
unfolding gate_row gate_powers gate_phase
cz = refl

-- ★4 d = 5, multiplier 2: (1,1,0) gives (2,3,0).
multiplier : gate_row 5 1 (Multiplier 0 2) (1 ∷ 1 ∷ 0 ∷ []) ≡ 2 ∷ 3 ∷ 0 ∷ []
unfolding gate_row gate_powers gate_phase inverse power_of
multiplier = refl

-- ★5 (0,1,0) times (1,0,0) is (1,1,1); reversed (1,1,0).
z_times_x : product 3 1 (0 ∷ 1 ∷ 0 ∷ []) (1 ∷ 0 ∷ 0 ∷ []) ≡ 1 ∷ 1 ∷ 1 ∷ []
unfolding product row_of tab dot
z_times_x = refl

x_times_z : product 3 1 (1 ∷ 0 ∷ 0 ∷ []) (0 ∷ 1 ∷ 0 ∷ []) ≡ 1 ∷ 1 ∷ 0 ∷ []
unfolding product row_of tab dot
x_times_z = refl

-- ★6 (1,1,0) squared is (2,2,1); cubed (0,0,0).
squared : power 3 1 2 (1 ∷ 1 ∷ 0 ∷ []) ≡ 2 ∷ 2 ∷ 1 ∷ []
unfolding power row_of tab dot
squared = refl

cubed : power 3 1 3 (1 ∷ 1 ∷ 0 ∷ []) ≡ 0 ∷ 0 ∷ 0 ∷ []
unfolding power row_of tab dot
cubed = refl

-- ★7 Error p 1, s 2 on (1,1,0): phase 1.
error : error_row 3 1 (record { place = 0; qudit = 0; p = 1; s = 2 }) (1 ∷ 1 ∷ 0 ∷ []) ≡ 1 ∷ 1 ∷ 1 ∷ []
unfolding error_row
error = refl

-- ★8 Zero tableau, measure with choice 2: certain 0.
abbrev zeros : List ℕ
zeros = zero_tableau 1 (9 ∷ 9 ∷ 9 ∷ 9 ∷ 9 ∷ 9 ∷ [])

abbrev start : State
start = record { rows = zeros; results = 9 ∷ 9 ∷ [] }

certain : direct_run 3 1 (Measure 0 ∷ []) [] (2 ∷ []) start ≡ record { rows = zeros; results = 0 ∷ 0 ∷ [] }
unfolding direct_run steps_from direct_step direct_errors direct_kind direct_look errors_on_rows measured chosen with_result look pivot_of first_not weighted combination scalar zero_tableau each_row part put product power row_of tab dot
certain = refl

-- ★9 Fourier, then measure with choice 2: free 2, rows (1,0,0) and (0,1,1).
free : direct_run 3 1 (Fourier 0 1 ∷ Measure 0 ∷ []) [] (2 ∷ []) start ≡ record { rows = 1 ∷ 0 ∷ 0 ∷ 0 ∷ 1 ∷ 1 ∷ []; results = 2 ∷ 1 ∷ [] }
unfolding direct_run steps_from direct_step direct_errors direct_kind direct_look errors_on_rows measured chosen with_result look pivot_of first_not collapse collapse_row z_with inverse power_of zero_tableau each_row part put product power row_of tab dot gate_row gate_powers gate_phase
free = refl
