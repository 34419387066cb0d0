-- Checks in order, a test at every number, and the first number that fails it.
use Rattle.std.specs.Prelude.{Bool, true, false, ◌&&◌, ℕ, zero, suc, Option, Some, None}
use Rattle.std.specs.Option.{option_or}

-- bad, unless the test holds: then the rest
abbrev pub unless : {A : Type 0} → Bool → A → A → A
unless true bad rest = rest
unless false bad rest = bad

-- the test holds at every number below m
unfoldable pub all : (ℕ → Bool) → ℕ → Bool
all test zero = true
all test (suc m) = all test m && test m

-- the first number below m at which the test fails
unfoldable pub first_not : (ℕ → Bool) → ℕ → Option ℕ
first_not test zero = None
first_not test (suc m) = option_or (first_not test m) (unless (test m) (Some m) None)
