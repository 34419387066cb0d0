-- The operations' operands.
use Rattle.std.specs.Prelude.{Bool, true, not, ◌&&◌, ℕ, eqb, ltb, leb}
use Rattle.operation.specs.declared.Operation.{Operation}
use Rattle.operation.specs.declared.Operation.TheVariants.{Fourier, PhaseGate, Sum, Cz, Swap, Multiplier, Measure, Reset, Correct}

-- q, c, t are below n, and c differs from t.
abbrev pub distinct : ℕ → ℕ → ℕ → Bool
distinct n c t = ltb c n && (ltb t n && not (eqb c t))

-- k from 1 to m−1
abbrev pub from_one : ℕ → ℕ → Bool
from_one m k = leb 1 k && ltb k m

-- Fourier is applied 1 to 3 times, whatever d is; phase gate, SUM and CZ 1 to d−1 times; u from 1 to d−1.
abbrev pub allowed : ℕ → ℕ → Operation → Bool
allowed d n (Fourier q k) = ltb q n && from_one 4 k
allowed d n (PhaseGate q k) = ltb q n && from_one d k
allowed d n (Sum c t k) = distinct n c t && from_one d k
allowed d n (Cz c t k) = distinct n c t && from_one d k
allowed d n (Swap c t) = distinct n c t
allowed d n (Multiplier q u) = ltb q n && from_one d u
allowed d n (Measure q) = ltb q n
allowed d n (Reset q) = ltb q n
allowed d n (Correct t m) = ltb t n

-- A named measurement must come earlier in the book: it is one of the `earlier` measurements that stand before the operation.
abbrev pub named : (earlier : ℕ) → Operation → Bool
named earlier (Fourier q k) = true
named earlier (PhaseGate q k) = true
named earlier (Sum c t k) = true
named earlier (Cz c t k) = true
named earlier (Swap c t) = true
named earlier (Multiplier q u) = true
named earlier (Measure q) = true
named earlier (Reset q) = true
named earlier (Correct t m) = ltb m earlier
