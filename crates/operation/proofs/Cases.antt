-- Each line of the table of operations, and an error, on one row: a = (1,2), b = (3,4), phase 1, for d = 5 and n = 2.
-- Assumes nothing.
use mathlib.Core.Path.{◌≡◌, refl}
use mathlib.Core.Bool.{true, false}
use mathlib.Core.List.{List, [], ◌∷◌}
use Prim.Native.Nat.{ℕ}
use Rattle.modular.specs.Dimension.{inverse, power_of}
use Rattle.operation.specs.declared.Operation.TheVariants.{Fourier, PhaseGate, Sum, Cz, Swap, Multiplier, Measure, Reset, Correct}
use Rattle.operation.specs.declared.WeylError.{WeylError}
use Rattle.operation.specs.Operation.{allowed, named}
use Rattle.operation.specs.Gate.{gate_powers, gate_phase, gate_row}
use Rattle.operation.specs.Repeated.{times_of, once}
use Rattle.operation.specs.Error.{error_row, error_frame, minus_x}

abbrev row : List ℕ
row = 1 ∷ 2 ∷ 3 ∷ 4 ∷ 1 ∷ []

fourier : gate_row 5 2 (Fourier 0 1) row ≡ 2 ∷ 2 ∷ 1 ∷ 4 ∷ 3 ∷ []
unfolding gate_row gate_powers gate_phase
fourier = refl

phase-gate : gate_row 5 2 (PhaseGate 1 1) row ≡ 1 ∷ 2 ∷ 3 ∷ 1 ∷ 2 ∷ []
unfolding gate_row gate_powers gate_phase
phase-gate = refl

sum : gate_row 5 2 (Sum 0 1 1) row ≡ 1 ∷ 3 ∷ 4 ∷ 4 ∷ 1 ∷ []
unfolding gate_row gate_powers gate_phase
sum = refl

cz : gate_row 5 2 (Cz 0 1 1) row ≡ 1 ∷ 2 ∷ 0 ∷ 0 ∷ 3 ∷ []
unfolding gate_row gate_powers gate_phase
cz = refl

-- Powers: Fourier twice and three times, the others four times.
fourier-twice : gate_row 5 2 (Fourier 0 2) row ≡ 4 ∷ 2 ∷ 2 ∷ 4 ∷ 1 ∷ []
unfolding gate_row gate_powers gate_phase
fourier-twice = refl

fourier_thrice : gate_row 5 2 (Fourier 0 3) row ≡ 3 ∷ 2 ∷ 4 ∷ 4 ∷ 3 ∷ []
unfolding gate_row gate_powers gate_phase
fourier_thrice = refl

phase-gates : gate_row 5 2 (PhaseGate 1 4) row ≡ 1 ∷ 2 ∷ 3 ∷ 2 ∷ 0 ∷ []
unfolding gate_row gate_powers gate_phase
phase-gates = refl

sums : gate_row 5 2 (Sum 0 1 4) row ≡ 1 ∷ 1 ∷ 2 ∷ 4 ∷ 1 ∷ []
unfolding gate_row gate_powers gate_phase
sums = refl

czs : gate_row 5 2 (Cz 0 1 4) row ≡ 1 ∷ 2 ∷ 1 ∷ 3 ∷ 4 ∷ []
unfolding gate_row gate_powers gate_phase
czs = refl

swap : gate_row 5 2 (Swap 0 1) row ≡ 2 ∷ 1 ∷ 4 ∷ 3 ∷ 1 ∷ []
unfolding gate_row gate_powers gate_phase
swap = refl

multiplier : gate_row 5 2 (Multiplier 1 3) row ≡ 1 ∷ 1 ∷ 3 ∷ 3 ∷ 1 ∷ []
unfolding gate_row gate_powers gate_phase inverse power_of
multiplier = refl

-- X^3 Z^2 on qudit 1
abbrev error : WeylError
error = record { place = 0; qudit = 1; p = 3; s = 2 }

after-error : error_row 5 2 error row ≡ 1 ∷ 2 ∷ 3 ∷ 4 ∷ 3 ∷ []
unfolding error_row
after-error = refl

framed : error_frame 5 2 error (1 ∷ 2 ∷ 3 ∷ 4 ∷ []) ≡ 1 ∷ 0 ∷ 3 ∷ 1 ∷ []
unfolding error_frame
framed = refl

-- How often, for dimension 5 and 3: SUM up to d − 1 times and not d times, never 0 times; Fourier three times at d = 3 too, and not four
-- times; the factor 0 is none.
times :
    (allowed 5 2 (Sum 0 1 4) ≡ true) × (allowed 5 2 (Sum 0 1 5) ≡ false) × (allowed 5 2 (Cz 0 1 0) ≡ false) × (allowed 3 1 (Fourier 0 3) ≡ true)
    × (allowed 5 1 (Fourier 0 4) ≡ false) × (allowed 5 1 (Fourier 0 0) ≡ false) × (allowed 5 1 (PhaseGate 0 5) ≡ false) × (allowed 5 1 (Multiplier 0 0) ≡ false)
times = (refl, refl, refl, refl, refl, refl, refl, refl)

-- a gate applied four times, and the same gate once
singly :
    (times_of (Fourier 0 3) ≡ 3) × (times_of (PhaseGate 0 4) ≡ 4) × (times_of (Sum 0 1 4) ≡ 4) × (times_of (Cz 0 1 4) ≡ 4) × (once (Fourier 0 3) ≡ Fourier 0 1)
    × (once (PhaseGate 0 4) ≡ PhaseGate 0 1) × (once (Sum 0 1 4) ≡ Sum 0 1 1) × (once (Cz 0 1 4) ≡ Cz 0 1 1)
singly = (refl, refl, refl, refl, refl, refl, refl, refl)

-- A correction names a measurement before it, of which there are 2 here: 1 and not 2, and none where there are none. Its target is below
-- n; a reset names none.
names :
    (named 2 (Correct 0 1) ≡ true) × (named 2 (Correct 0 2) ≡ false) × (named 0 (Correct 0 0) ≡ false) × (named 0 (Reset 0) ≡ true) × (named 0 (Measure 0) ≡ true)
    × (allowed 5 2 (Correct 1 9) ≡ true) × (allowed 5 2 (Correct 2 0) ≡ false) × (allowed 5 2 (Reset 2) ≡ false)
names = (refl, refl, refl, refl, refl, refl, refl, refl)

-- X to the minus 2 on qudit 1 is X^3 there: the phase gains 2 times the Z power, and a frame loses 2
less_two : (error_row 5 2 (minus_x 5 1 2) row ≡ 1 ∷ 2 ∷ 3 ∷ 4 ∷ 4 ∷ []) × (error_frame 5 2 (minus_x 5 1 2) (1 ∷ 2 ∷ 3 ∷ 4 ∷ []) ≡ 1 ∷ 0 ∷ 3 ∷ 4 ∷ [])
unfolding error_row error_frame
less_two = (refl, refl)
