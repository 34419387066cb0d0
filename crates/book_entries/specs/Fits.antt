-- The test of four bytes: whether they are an operation, without saying which.
use Rattle.std.specs.Prelude.{Bool, cond, not, ◌&&◌, ◌||◌, List, ℕ, ◌+◌, ◌*◌, eqb, ltb, leb, get_or}
use Rattle.operation.specs.Operation.{from_one}
use Rattle.book_entries.specs.Entry.{times_in}

-- Byte 2: SUM, CZ and swap have a second qudit there, the others 0.
abbrev pub second_fits : (n b0 b1 b2 : ℕ) → Bool
second_fits n b0 b1 b2 = cond (leb 2 b0 && leb b0 4) (ltb b2 n && not (eqb b1 b2)) (eqb b2 0)

-- Fourier is applied fewer than 4 times, phase gate, SUM and CZ fewer than d times; swap and measurement are done once.
abbrev pub last_limit : (d b0 : ℕ) → ℕ
last_limit d b0 = cond (eqb b0 0) 4 (cond (eqb b0 4 || eqb b0 6) 2 d)

-- Byte 3: the multiplier's u is from 1 to d−1; for the others it says how often, and once is not written as 1.
abbrev pub last_fits : (d b0 b3 : ℕ) → Bool
last_fits d b0 b3 = cond (eqb b0 5) (from_one d b3) (ltb (times_in b3) (last_limit d b0) && not (eqb b3 1))

-- A gate or a measurement, in one formula for all their codes.
unfoldable pub plain_fits : (d n b0 b1 b2 b3 : ℕ) → Bool
plain_fits d n b0 b1 b2 b3 = (leb b0 6 && ltb b1 n) && (second_fits n b0 b1 b2 && last_fits d b0 b3)

-- A reset has 0 in bytes 2 and 3; those of a correction are any two bytes.
abbrev pub rest_fits : (n b0 b1 b2 b3 : ℕ) → Bool
rest_fits n b0 b1 b2 b3 = ltb b1 n && ((eqb b0 7 && (eqb b2 0 && eqb b3 0)) || (eqb b0 8 && ltb b2 256))

unfoldable pub fits : (d n b0 b1 b2 b3 : ℕ) → Bool
fits d n b0 b1 b2 b3 = plain_fits d n b0 b1 b2 b3 || rest_fits n b0 b1 b2 b3

-- entry k of a body of operations is a gate or a measurement
abbrev pub plain_at : (d n : ℕ) (ops : List ℕ) (k : ℕ) → Bool
plain_at d n ops k = plain_fits d n (get_or ops (4 * k) 0) (get_or ops (4 * k + 1) 0) (get_or ops (4 * k + 2) 0) (get_or ops (4 * k + 3) 0)
