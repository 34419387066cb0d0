-- The last byte of the entry that undoes another, by two tables: code and qudits stay, so it is all that changes.
use Rattle.std.specs.Prelude.{cond, List, [], ◌∷◌, ℕ, ◌-◌, eqb, get_or}
use Rattle.modular.specs.Dimension.{inverse}
use Rattle.row.specs.Row.{tab}
use Rattle.book_entries.specs.Entry.{times_in, times_byte}

-- By code, 0 to 6: so many applications of the gate do nothing. A multiplier, code 5, is undone by its factor, and its number, which is no
-- less than a factor, is not used. With 2 for a measurement, code 6, its last byte stays 0, as `undoing` leaves it as it is.
abbrev pub orders_of : ℕ → List ℕ
orders_of d = 4 ∷ d ∷ d ∷ d ∷ 2 ∷ d ∷ 2 ∷ []

-- the inverse of every number below 32
abbrev pub inverses_of : ℕ → List ℕ
inverses_of d = tab (inverse d) 32

-- the inverse factor, or as many applications as are missing, where once is written as 0
abbrev pub undone_byte : (d b0 b3 : ℕ) → ℕ
undone_byte d b0 b3 = cond (eqb b0 5) (inverse d b3) (times_byte (get_or (orders_of d) b0 0 - times_in b3))
