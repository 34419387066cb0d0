-- The powers of a tableau by columns: column s has power s of every row. One row is then paired with many at a time, each of its powers
-- being the factor of a whole column.
use Rattle.std.specs.Prelude.{◌≡◌, List, ℕ, ◌+◌, ◌*◌, ◌<◌, ◌≤◌, get_or}
use Rattle.row.specs.Row.{dot}
use Rattle.tableau.specs.Tableau.{Tableau, row}
use Rattle.dots.specs.Dots.{SmallColumns, number}

-- a tableau that fits into the columns: at most 64 qudits, every byte of its rows below 31
pub record SmallTableau (n : ℕ) (t : List ℕ) : Type 0 where
  pub size : n ≤ 64
  pub tableau : Tableau 31 n t

-- power s of row j
abbrev pub power_at : ℕ → List ℕ → ℕ → ℕ → ℕ
power_at n t s j = get_or t (j * (2 * n + 1) + s) 0

-- the first m columns of t are laid
pub record Laid (n : ℕ) (t : List ℕ) (m : ℕ) (c : List (List ℕ)) : Type 0 where
  pub small : SmallColumns c
  pub laid : (s j : ℕ) → s < m → j < 2 * n → number c s j ≡ power_at n t s j

-- the two sums of the pairing of row i with each earlier row
pub record RowSums (n : ℕ) (t : List ℕ) (i : ℕ) (plus minus : List ℕ) : Type 0 where
  pub plus_sum : (j : ℕ) → j < i → get_or plus j 0 ≡ dot n (row n t i) (row n t j) n
  pub minus_sum : (j : ℕ) → j < i → get_or minus j 0 ≡ dot n (row n t j) (row n t i) n
