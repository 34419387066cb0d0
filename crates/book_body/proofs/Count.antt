-- A test as a number.
-- Assumes nothing.
use Rattle.std.proofs.Common.{◌≡◌, ◌≤◌, Bool, true, false, cond, refl, arith}
use Rattle.std.specs.Int.{from_bool}

pub at_most_one : (t : Bool) → from_bool t ≤ 1
at_most_one true = omega arith
at_most_one false = omega arith

pub as_number : (t : Bool) → from_bool t ≡ cond t 1 0
as_number true = refl
as_number false = refl
