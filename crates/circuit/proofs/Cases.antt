-- Circuits that must be counted so: antt computes each.
-- Assumes nothing.
use mathlib.Core.Path.{◌≡◌, refl}
use mathlib.Core.List.{List, [], ◌∷◌}
use Rattle.operation.specs.declared.Operation.{Operation}
use Rattle.operation.specs.declared.Operation.TheVariants.{Fourier, Measure, Reset, Correct}
use Rattle.circuit.specs.Circuit.{measured, chosen, measurement_count, choice_count}

abbrev reused : List Operation
reused = Fourier 0 1 ∷ Measure 0 ∷ Reset 0 ∷ Correct 1 0 ∷ Measure 1 ∷ []

-- A reset takes a choice and gives no result; a correction neither. What comes before an operation does not count it.
pub counts : (measurement_count reused ≡ 2) × (choice_count reused ≡ 3) × (measured reused 4 ≡ 1) × (chosen reused 3 ≡ 2)
unfolding measured chosen
counts = (refl, refl, refl, refl)
