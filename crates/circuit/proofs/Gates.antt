-- The operation that `if let Operation::Measure` passes over is a gate.
-- Assumes nothing.
use mathlib.Core.Path.{◌≡◌, refl}
use mathlib.Core.List.{[], ◌∷◌}
use denote.Enum.Declared.{tag_of}
use types.Run.{OneOf, miss}
use Rattle.operation.specs.declared.Operation.{Operation}
use Rattle.operation.specs.declared.Operation.TheVariants.{Fourier, PhaseGate, Sum, Cz, Swap, Multiplier, Measure, Reset, Correct}
use Rattle.operation.specs.contracts.Operation.{the_type}
use Rattle.circuit.specs.Circuit.{gate, kind}

pub is-gate : (op : Operation) → OneOf (0 ∷ 1 ∷ 2 ∷ 3 ∷ 4 ∷ 5 ∷ []) (tag_of the_type op) → kind op ≡ gate
is-gate (Fourier q k) h = refl
is-gate (PhaseGate q k) h = refl
is-gate (Sum c t k) h = refl
is-gate (Cz c t k) h = refl
is-gate (Swap c t) h = refl
is-gate (Multiplier q u) h = refl
is-gate (Measure q) h = absurd (miss (0 ∷ 1 ∷ 2 ∷ 3 ∷ 4 ∷ 5 ∷ []) 6 (record {}) h)
is-gate (Reset q) h = absurd (miss (0 ∷ 1 ∷ 2 ∷ 3 ∷ 4 ∷ 5 ∷ []) 7 (record {}) h)
is-gate (Correct t m) h = absurd (miss (0 ∷ 1 ∷ 2 ∷ 3 ∷ 4 ∷ 5 ∷ []) 8 (record {}) h)
