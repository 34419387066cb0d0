-- What an operation counts, by the code of its entry.
-- Assumes nothing.
use mathlib.Core.Path.{◌≡◌, refl, sym, ap}
use mathlib.Core.Bool.{true, ◌||◌}
use mathlib.Core.List.{List}
use Prim.Native.Nat.{ℕ, ◌*◌, ◌<◌}
use lib.Dec.{eqb}
use lib.ListN.{length, get_or}
use mir.Val.{bool_byte}
use Rattle.operation.specs.declared.Operation.{Operation}
use Rattle.operation.specs.declared.Operation.TheVariants.{Fourier, PhaseGate, Sum, Cz, Swap, Multiplier, Measure, Reset, Correct}
use Rattle.operation.specs.Operation.{allowed}
use Rattle.circuit.specs.Circuit.{op_at, tally, choice_tally}
use Rattle.book_entries.specs.Entry.{bytes_of}
use Rattle.book.specs.declared.bodies.Circuit.{Circuit}
use Rattle.book.specs.Circuits.{operation_list}
use Rattle.book.proofs.Circuits.{entry-inside}
use Rattle.operation_codes.proofs.Codes.{own-bytes}
use Rattle.runs.proofs.Results.{measured-step, chosen-step, chosen-most, measured-chosen}

by_code : (op : Operation)
    → (tally op ≡ bool_byte (eqb (get_or (bytes_of op) 0 0) 6)) × (choice_tally op ≡ bool_byte (eqb (get_or (bytes_of op) 0 0) 6 || eqb (get_or (bytes_of op) 0 0) 7))
unfolding bytes_of
by_code (Fourier q k) = (refl, refl)
by_code (PhaseGate q k) = (refl, refl)
by_code (Sum c t k) = (refl, refl)
by_code (Cz c t k) = (refl, refl)
by_code (Swap c t) = (refl, refl)
by_code (Multiplier q u) = (refl, refl)
by_code (Measure q) = (refl, refl)
by_code (Reset q) = (refl, refl)
by_code (Correct t m) = (refl, refl)

module _ (c : Circuit) (k : ℕ) (inside : k < length (operation_list c)) (fits : allowed c.d c.n (op_at (operation_list c) k) ≡ true) where
  code : get_or (bytes_of (op_at (operation_list c) k)) 0 0 ≡ get_or c.ops.now (4 * k) 0
  code = sym (ap (λ (bytes : List ℕ). get_or bytes 0 0) (own-bytes c.d c.n c.ops.now k (entry-inside c k inside) fits))

  pub counts : (tally (op_at (operation_list c) k) ≡ bool_byte (eqb (get_or c.ops.now (4 * k) 0) 6))
      × (choice_tally (op_at (operation_list c) k) ≡ bool_byte (eqb (get_or c.ops.now (4 * k) 0) 6 || eqb (get_or c.ops.now (4 * k) 0) 7))
  counts = let a = by_code (op_at (operation_list c) k) in (rw (← code) a.0, rw (← code) a.1)

-- how both counts go on, and that no operation counts twice
pub ruleset counting = (measured-step, chosen-step, measured-chosen, chosen-most)
