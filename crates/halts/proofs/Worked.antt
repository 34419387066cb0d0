-- A worked run that halts and goes on, for d = 3 and one qudit. Rows are the X power, the Z power and the phase.
-- Assumes nothing.
use mathlib.Core.Path.{◌≡◌, refl}
use mathlib.Core.List.{List, [], ◌∷◌}
use Prim.Native.Nat.{ℕ}
use Rattle.modular.specs.Dimension.{inverse, power_of}
use Rattle.row.specs.Row.{tab, row_of, dot, product, power}
use Rattle.row.specs.Generators.{z_with}
use Rattle.row_laws.specs.Scalar.{scalar}
use Rattle.search.specs.Search.{first_not}
use Rattle.tableau.specs.Tableau.{part, put, each_row}
use Rattle.operation.specs.declared.Operation.{Operation}
use Rattle.operation.specs.declared.Operation.TheVariants.{Fourier, Measure, Reset, Correct}
use Rattle.operation.specs.declared.WeylError.{WeylError}
use Rattle.operation.specs.Gate.{gate_powers, gate_phase, gate_row}
use Rattle.operation.specs.Error.{error_row}
use Rattle.circuit.specs.Circuit.{measured, chosen}
use Rattle.measurement.specs.Look.{pivot_of, look}
use Rattle.measurement.specs.Collapse.{collapse_row, collapse}
use Rattle.runs.specs.Run.{steps_from, with_result}
use Rattle.runs.specs.Direct.{State, state_of, errors_on_rows, direct_look, direct_kind, direct_errors, direct_step}
use Rattle.halts.specs.Halt.{next_of, go_on, look_at, reaches, direct_stage, direct_to, direct_from}

-- Fourier, then a measurement with the choice 1; X before the first, Z before the second, X after all
abbrev ops : List Operation
ops = Fourier 0 1 ∷ Measure 0 ∷ []

abbrev errors : List WeylError
errors =
    record { place = 0; qudit = 0; p = 1; s = 0 }
    ∷ record { place = 1; qudit = 0; p = 0; s = 1 }
    ∷ record { place = 2; qudit = 0; p = 1; s = 0 } ∷ []

abbrev going : (from count : ℕ) → State → State
going from count st = direct_from 3 1 ops errors (1 ∷ []) from count st

-- the state at each number
abbrev at_0 : State
at_0 = state_of (1 ∷ 0 ∷ 0 ∷ 0 ∷ 1 ∷ 0 ∷ []) (9 ∷ 9 ∷ [])

abbrev at_1 : State
at_1 = state_of (0 ∷ 1 ∷ 0 ∷ 2 ∷ 0 ∷ 2 ∷ []) (9 ∷ 9 ∷ [])

abbrev at_2 : State
at_2 = state_of (1 ∷ 0 ∷ 2 ∷ 0 ∷ 1 ∷ 2 ∷ []) (1 ∷ 1 ∷ [])

abbrev at_3 : State
at_3 = state_of (1 ∷ 0 ∷ 2 ∷ 0 ∷ 1 ∷ 1 ∷ []) (1 ∷ 1 ∷ [])

-- A count of the operations that are left halts before the last errors, one more finishes, and a larger one finishes too.
numbers : (next_of 2 0 0 ≡ 0) × (next_of 2 1 1 ≡ 2) × (next_of 2 1 2 ≡ 3) × (next_of 2 0 9 ≡ 3) × (next_of 2 2 0 ≡ 2) × (next_of 2 3 5 ≡ 3)
numbers = (refl, refl, refl, refl, refl, refl)

worked : (going 0 1 at_0 ≡ at_1) × (going 0 2 at_0 ≡ at_2) × (going 1 1 at_1 ≡ at_2) × (going 1 2 at_1 ≡ at_3) × (going 2 1 at_2 ≡ at_3) × (going 3 7 at_3 ≡ at_3)
unfolding direct_to direct_stage steps_from with_result measured chosen direct_step direct_kind direct_look direct_errors errors_on_rows error_row look pivot_of first_not collapse collapse_row each_row part put product power scalar z_with row_of tab dot gate_row gate_powers gate_phase inverse power_of
worked = (refl, refl, refl, refl, refl, refl)

-- looks and halts on the way
acted : (reaches 2 0 (look_at 0 ∷ go_on 1 ∷ go_on 0 ∷ look_at 0 ∷ go_on 1 ∷ []) ≡ 2) × (reaches 2 0 (go_on 1 ∷ go_on 1 ∷ look_at 0 ∷ go_on 5 ∷ go_on 1 ∷ []) ≡ 3)
unfolding reaches
acted = (refl, refl)

-- Fourier, a reset, Fourier, a measurement, and a correction by its result. The reset takes the choice 2, the measurement the choice 1.
abbrev reused : List Operation
reused = Fourier 0 1 ∷ Reset 0 ∷ Fourier 0 1 ∷ Measure 0 ∷ Correct 0 0 ∷ []

abbrev going-reused : (from count : ℕ) → State → State
going-reused from count st = direct_from 3 1 reused [] (2 ∷ 1 ∷ []) from count st

-- The number alone tells which choices are spent: before the measurement that of the reset, though no result was given. The correction
-- reads the lent result: as it was given it brings the qudit back to level 0; 5 in its place counts as 2.
spent : (going-reused 3 1 (state_of (0 ∷ 1 ∷ 0 ∷ 2 ∷ 0 ∷ 0 ∷ []) (9 ∷ 9 ∷ [])) ≡ state_of (1 ∷ 0 ∷ 0 ∷ 0 ∷ 1 ∷ 2 ∷ []) (1 ∷ 1 ∷ []))
    × (going-reused 4 1 (state_of (1 ∷ 0 ∷ 0 ∷ 0 ∷ 1 ∷ 2 ∷ []) (1 ∷ 1 ∷ [])) ≡ state_of (1 ∷ 0 ∷ 0 ∷ 0 ∷ 1 ∷ 0 ∷ []) (1 ∷ 1 ∷ []))
    × (going-reused 4 1 (state_of (1 ∷ 0 ∷ 0 ∷ 0 ∷ 1 ∷ 2 ∷ []) (5 ∷ 1 ∷ [])) ≡ state_of (1 ∷ 0 ∷ 0 ∷ 0 ∷ 1 ∷ 1 ∷ []) (5 ∷ 1 ∷ []))
unfolding direct_to direct_stage steps_from with_result measured chosen direct_step direct_kind direct_look direct_errors errors_on_rows error_row look pivot_of first_not collapse collapse_row each_row part put product power scalar z_with row_of tab dot gate_row gate_powers gate_phase inverse power_of
spent = (refl, refl, refl)
