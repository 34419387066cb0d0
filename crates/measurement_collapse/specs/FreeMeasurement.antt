-- A free measurement: what is measured, and what the rows are changed with.
use Rattle.std.specs.Prelude.{◌≡◌, List, [], ℕ, ◌+◌, ◌*◌, ◌%◌, ◌<◌, ◌≤◌, length, get_or, take}
use Rattle.modular.specs.Modular.{neg}
use Rattle.modular.specs.Dimension.{inverse}
use Rattle.row.specs.Row.{Row, x_of, product, power}
use Rattle.tableau.specs.Tableau.{put}

-- Qudit q is measured by stabilizer k, with this choice.
pub record Operands (d n q k choice : ℕ) : Type 0 where
  pub size : n ≤ 64
  pub qudit : q < n
  pub stabilizer : k < n
  pub below : choice < d

-- the row at place h of p, with room behind it
abbrev pub power_in : ℕ → List (List ℕ) → ℕ → List ℕ
power_in n p h = take (2 * n + 1) (get_or p h [])

-- Place h holds the pivot to the power h, for each h below the count.
pub record PowersOf (d n : ℕ) (pivot : List ℕ) (p : List (List ℕ)) (count : ℕ) : Type 0 where
  pub at_place : (h : ℕ) → h < count → power_in n p h ≡ power d n h pivot

-- xs begins with the pivot's X powers
pub record Widened (n : ℕ) (pivot xs : List ℕ) : Type 0 where
  pub room : n ≤ length xs
  pub same : (j : ℕ) → j < n → get_or xs j 0 ≡ x_of pivot j

-- power 1 of the pivot, which is the pivot itself
abbrev pub pivot_in : ℕ → List (List ℕ) → List ℕ
pivot_in n p = power_in n p 1

-- p holds every power of the pivot, xs its X powers, and inv is the inverse of the one on q.
pub record Prepared (d n q inv : ℕ) (p : List (List ℕ)) (xs : List ℕ) : Type 0 where
  pub pivot : Row d n (pivot_in n p)
  pub powers : PowersOf d n (pivot_in n p) p d
  pub widened : Widened n (pivot_in n p) xs
  pub inverts : inv ≡ inverse d (x_of (pivot_in n p) q)

-- v times the pivot to the power −f/e, f being v's own X power on q
unfoldable pub cleared : ℕ → ℕ → ℕ → List ℕ → List ℕ → List ℕ
cleared d n q pivot v = product d n v (power d n (neg d (x_of v q) * inverse d (x_of pivot q) % d) pivot)

-- t with v in the place of row i
abbrev pub row_put : ℕ → ℕ → List ℕ → List ℕ → List ℕ
row_put n i v t = put (i * (2 * n + 1)) (2 * n + 1) v t
