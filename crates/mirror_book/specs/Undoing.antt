-- The operation that undoes another.
use Rattle.std.specs.Prelude.{ℕ, ◌-◌}
use Rattle.modular.specs.Dimension.{inverse}
use Rattle.operation.specs.declared.Operation.{Operation}
use Rattle.operation.specs.declared.Operation.TheVariants.{Fourier, PhaseGate, Sum, Cz, Swap, Multiplier, Measure, Reset, Correct}

-- Each gate turned into its inverse, by powers and the inverse multiplier: Fourier four times, and phase gate, SUM and CZ d times, do
-- nothing. Measurement, reset and correction have no inverse: a book that has one is refused by 12.
abbrev pub undoing : ℕ → Operation → Operation
undoing d (Fourier q k) = Fourier q (4 - k)
undoing d (PhaseGate q k) = PhaseGate q (d - k)
undoing d (Sum c t k) = Sum c t (d - k)
undoing d (Cz c t k) = Cz c t (d - k)
undoing d (Swap c t) = Swap c t
undoing d (Multiplier q u) = Multiplier q (inverse d u)
undoing d (Measure q) = Measure q
undoing d (Reset q) = Reset q
undoing d (Correct t m) = Correct t m
