-- Powers of a gate in one entry: how often an operation's gate is applied, and the same gate applied another number of times.
use Rattle.std.specs.Prelude.{ℕ, zero, suc}
use Rattle.operation.specs.declared.Operation.{Operation}
use Rattle.operation.specs.declared.Operation.TheVariants.{Fourier, PhaseGate, Sum, Cz, Swap, Multiplier, Measure, Reset, Correct}

-- f applied k times
unfoldable pub repeated : {A : Type 0} → (A → A) → ℕ → A → A
repeated f zero a = a
repeated f (suc k) a = f (repeated f k a)

abbrev pub times_of : Operation → ℕ
times_of (Fourier q k) = k
times_of (PhaseGate q k) = k
times_of (Sum c t k) = k
times_of (Cz c t k) = k
times_of (Swap c t) = 1
times_of (Multiplier q u) = 1
times_of (Measure q) = 1
times_of (Reset q) = 1
times_of (Correct t m) = 1

-- the operation with its gate applied j times, where it has powers
abbrev pub applied : ℕ → Operation → Operation
applied j (Fourier q k) = Fourier q j
applied j (PhaseGate q k) = PhaseGate q j
applied j (Sum c t k) = Sum c t j
applied j (Cz c t k) = Cz c t j
applied j (Swap c t) = Swap c t
applied j (Multiplier q u) = Multiplier q u
applied j (Measure q) = Measure q
applied j (Reset q) = Reset q
applied j (Correct t m) = Correct t m

abbrev pub once : Operation → Operation
once op = applied 1 op
