-- Entries that must be read so: antt computes each.
-- Assumes nothing.
use mathlib.Core.Path.{◌≡◌, refl}
use mathlib.Core.List.{[], ◌∷◌}
use Rattle.std.proofs.Common.{Some, None}
use Rattle.operation.specs.declared.Operation.TheVariants.{Fourier, PhaseGate, Sum, Cz, Multiplier, Reset, Correct}
use Rattle.book_entries.specs.Entry.{word, bytes_of, decoded}

-- low byte first
pub words : word (2 ∷ 1 ∷ []) 0 ≡ 258
words = refl

-- Of dimension 3 and two qudits: a code above 8, a qudit not below n, c = t, SUM with a last byte of 1 and the multipliers 0 and 3 are bad.
pub entries :
    (decoded 3 2 0 1 0 0 ≡ Some (Fourier 1 1)) × (decoded 3 2 9 1 0 0 ≡ None) × (decoded 3 2 0 2 0 0 ≡ None)
    × (decoded 3 2 2 1 0 0 ≡ Some (Sum 1 0 1)) × (decoded 3 2 2 1 1 0 ≡ None) × (decoded 3 2 2 1 0 1 ≡ None)
    × (decoded 3 2 5 1 0 1 ≡ Some (Multiplier 1 1)) × (decoded 3 2 5 1 0 0 ≡ None) × (decoded 3 2 5 1 0 3 ≡ None)
unfolding decoded
entries = (refl, refl, refl, refl, refl, refl, refl, refl, refl)

-- Powers in byte 3, for dimension 5 and two qudits: 0 is once, 1 is bad, 2 to d − 1 are themselves, d is bad; Fourier takes 2 and 3
-- whatever d is, and byte 2 of a gate on one qudit stays 0.
pub powers :
    (decoded 5 2 2 1 0 4 ≡ Some (Sum 1 0 4)) × (decoded 5 2 2 1 0 5 ≡ None) × (decoded 5 2 3 0 1 2 ≡ Some (Cz 0 1 2)) × (decoded 5 2 3 0 1 1 ≡ None)
    × (decoded 5 2 1 1 0 2 ≡ Some (PhaseGate 1 2)) × (decoded 5 2 1 1 2 0 ≡ None) × (decoded 3 2 0 1 0 3 ≡ Some (Fourier 1 3)) × (decoded 5 2 0 1 0 4 ≡ None)
    × (decoded 5 2 0 1 0 1 ≡ None) × (decoded 5 2 4 0 1 2 ≡ None) × (decoded 5 2 6 0 0 2 ≡ None)
unfolding decoded
powers = (refl, refl, refl, refl, refl, refl, refl, refl, refl, refl, refl)

-- A reset has two bytes, a correction four, the measurement's number low byte first; their qudits are below n.
pub resets_and_corrections :
    (decoded 3 2 7 1 0 0 ≡ Some (Reset 1)) × (decoded 3 2 7 2 0 0 ≡ None) × (decoded 3 2 7 1 1 0 ≡ None) × (decoded 3 2 7 1 0 2 ≡ None)
    × (decoded 3 2 8 1 2 1 ≡ Some (Correct 1 258)) × (decoded 3 2 8 2 0 0 ≡ None) × (decoded 3 2 8 0 255 255 ≡ Some (Correct 0 65535)) × (decoded 3 2 8 0 256 0 ≡ None)
    × (bytes_of (Reset 1) ≡ 7 ∷ 1 ∷ 0 ∷ 0 ∷ []) × (bytes_of (Correct 1 258) ≡ 8 ∷ 1 ∷ 2 ∷ 1 ∷ [])
unfolding decoded bytes_of
resets_and_corrections = (refl, refl, refl, refl, refl, refl, refl, refl, refl, refl)
