-- Saved tableaus that name themselves: two bytes, d and n, now stand before the rows.
use Rattle.std.specs.Prelude.{Bool, ◌&&◌, List, ◌++◌, ℕ, ◌+◌, ◌*◌, eqb, get_or, take, drop}
use Rattle.modular.specs.Dimension.{listed}
use Rattle.tableau.specs.Tableau.{sized}
use Rattle.validity.specs.Validity.{valid}

-- Byte 0 is d, byte 1 is n, and the rows begin at byte 2.
abbrev pub dimension_in : List ℕ → ℕ
dimension_in t = get_or t 0 0

abbrev pub qudits_in : List ℕ → ℕ
qudits_in t = get_or t 1 0

abbrev pub rows_in : List ℕ → List ℕ
rows_in t = drop 2 t

-- other rows behind the same two bytes
abbrev pub with_rows : List ℕ → List ℕ → List ℕ
with_rows t rows = take 2 t ++ rows

-- The rows need 2n(2n+1) bytes, and 2 more bytes are needed. Bytes past them are kept.
abbrev pub tableau_bytes : ℕ → ℕ
tableau_bytes n = 2 * n * (2 * n + 1) + 2

-- A tableau counts as valid exactly if these two are in range, each byte of the rows is below that d, and the pairings hold for them.
unfoldable pub self_valid : List ℕ → Bool
self_valid t = listed (dimension_in t) && (sized (qudits_in t) && valid (dimension_in t) (qudits_in t) (rows_in t))

-- the two bytes are d and n
abbrev pub names : ℕ → ℕ → List ℕ → Bool
names d n t = eqb (dimension_in t) d && eqb (qudits_in t) n

-- In a run, a d or n that isn't the book's is refused by 9, as a tableau is that is not valid.
unfoldable pub valid_for : ℕ → ℕ → List ℕ → Bool
valid_for d n t = names d n t && self_valid t
