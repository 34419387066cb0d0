-- The entries of the bodies.
use Rattle.std.specs.Prelude.{◌≡◌, ◌↔◌, Bool, true, false, cond, not, ◌&&◌, List, [], ◌∷◌, ℕ, ◌+◌, ◌*◌, ◌/◌, ◌%◌, eqb, ltb, get_or, Option, Some, None}
use Rattle.operation.specs.declared.Operation.{Operation}
use Rattle.operation.specs.declared.Operation.TheVariants.{Fourier, PhaseGate, Sum, Cz, Swap, Multiplier, Measure, Reset, Correct}
use Rattle.operation.specs.declared.WeylError.{WeylError}
use Rattle.operation.specs.Operation.{allowed}
use Rattle.book_entries.specs.declared.Entry.{Entry}

-- two bytes, low byte first
abbrev pub word : List ℕ → ℕ → ℕ
word s at = get_or s at 0 + 256 * get_or s (at + 1) 0

-- Byte 3 of Fourier, phase gate, SUM and CZ is how often the gate is applied: 0 means once, and 1 is bad, so that no power has two
-- spellings.
abbrev pub times_in : ℕ → ℕ
times_in b = cond (eqb b 0) 1 b

abbrev pub times_byte : ℕ → ℕ
times_byte k = cond (eqb k 1) 0 k

-- Operations: four bytes each; byte 0 is the code. A byte not named is 0.
unfoldable pub bytes_of : Operation → List ℕ
bytes_of (Fourier q k) = 0 ∷ q ∷ 0 ∷ times_byte k ∷ []
bytes_of (PhaseGate q k) = 1 ∷ q ∷ 0 ∷ times_byte k ∷ []
bytes_of (Sum c t k) = 2 ∷ c ∷ t ∷ times_byte k ∷ []
bytes_of (Cz c t k) = 3 ∷ c ∷ t ∷ times_byte k ∷ []
bytes_of (Swap c t) = 4 ∷ c ∷ t ∷ 0 ∷ []
bytes_of (Multiplier q u) = 5 ∷ q ∷ 0 ∷ u ∷ []
bytes_of (Measure q) = 6 ∷ q ∷ 0 ∷ 0 ∷ []
bytes_of (Reset q) = 7 ∷ q ∷ 0 ∷ 0 ∷ []
bytes_of (Correct t m) = 8 ∷ t ∷ m % 256 ∷ m / 256 ∷ []

abbrev pub good_if : Bool → Operation → Option Operation
good_if true op = Some op
good_if false op = None

-- the operation, if its operands are in range, the bytes not named are 0 and a power of 1 is not written as 1
abbrev pub if_allowed : ℕ → ℕ → Operation → Bool → Option Operation
if_allowed d n op well-written = good_if (allowed d n op && well-written) op

-- The operation that four bytes are. Bytes 2 and 3 of code 8 (low first) name a measurement; they are bytes, so that no number has two
-- spellings.
unfoldable pub decoded : ℕ → ℕ → ℕ → ℕ → ℕ → ℕ → Option Operation
decoded d n b0 b1 b2 b3 =
    cond (eqb b0 0) (if_allowed d n (Fourier b1 (times_in b3)) (eqb b2 0 && not (eqb b3 1)))
    (cond (eqb b0 1) (if_allowed d n (PhaseGate b1 (times_in b3)) (eqb b2 0 && not (eqb b3 1)))
    (cond (eqb b0 2) (if_allowed d n (Sum b1 b2 (times_in b3)) (not (eqb b3 1)))
    (cond (eqb b0 3) (if_allowed d n (Cz b1 b2 (times_in b3)) (not (eqb b3 1)))
    (cond (eqb b0 4) (if_allowed d n (Swap b1 b2) (eqb b3 0))
    (cond (eqb b0 5) (if_allowed d n (Multiplier b1 b3) (eqb b2 0))
    (cond (eqb b0 6) (if_allowed d n (Measure b1) (eqb b2 0 && eqb b3 0))
    (cond (eqb b0 7) (if_allowed d n (Reset b1) (eqb b2 0 && eqb b3 0))
    (cond (eqb b0 8) (if_allowed d n (Correct b1 (b2 + 256 * b3)) (ltb b2 256))
    None))))))))

-- The operation of a code, whatever its operands: byte 1 is q or c, byte 2 is t, byte 3 says how often, or is u; of a correction byte 1 is
-- t, bytes 2 and 3 are m. Every code from 8 up is the correction.
unfoldable pub coded : ℕ → ℕ → ℕ → ℕ → Operation
coded b0 b1 b2 b3 =
    cond (eqb b0 0) (Fourier b1 (times_in b3))
    (cond (eqb b0 1) (PhaseGate b1 (times_in b3))
    (cond (eqb b0 2) (Sum b1 b2 (times_in b3))
    (cond (eqb b0 3) (Cz b1 b2 (times_in b3))
    (cond (eqb b0 4) (Swap b1 b2)
    (cond (eqb b0 5) (Multiplier b1 b3)
    (cond (eqb b0 6) (Measure b1)
    (cond (eqb b0 7) (Reset b1)
    (Correct b1 (b2 + 256 * b3)))))))))

-- the four bytes of entry k of a body of operations
abbrev pub entry_at : List ℕ → ℕ → Entry
entry_at ops k = record { code = get_or ops (4 * k) 0; first = get_or ops (4 * k + 1) 0; second = get_or ops (4 * k + 2) 0; last = get_or ops (4 * k + 3) 0 }

-- entry k of a body of operations
abbrev pub operation_at : ℕ → ℕ → List ℕ → ℕ → Option Operation
operation_at d n ops k = decoded d n (get_or ops (4 * k) 0) (get_or ops (4 * k + 1) 0) (get_or ops (4 * k + 2) 0) (get_or ops (4 * k + 3) 0)

-- Errors: five bytes: place (two bytes, low first), qudit, p, s.
unfoldable pub error_at : List ℕ → ℕ → WeylError
error_at errors k = record {
  place = word errors (5 * k);
  qudit = get_or errors (5 * k + 2) 0;
  p = get_or errors (5 * k + 3) 0;
  s = get_or errors (5 * k + 4) 0;
}

-- An entry is an operation exactly if its bytes are that operation's, with the operands in range.
abbrev pub DecodedExactly : Type 0
DecodedExactly = (d n b0 b1 b2 b3 : ℕ) (op : Operation)
    → (decoded d n b0 b1 b2 b3 ≡ Some op) ↔ ((allowed d n op ≡ true) × (b0 ∷ b1 ∷ b2 ∷ b3 ∷ [] ≡ bytes_of op))
