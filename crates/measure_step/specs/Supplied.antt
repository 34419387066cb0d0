-- What the steps of a run on the rows are handed.
use Rattle.std.specs.Prelude.{◌≡◌, true, List, ℕ, ◌+◌, ◌<◌, ◌≤◌, length, get_or}
use Rattle.modular.specs.Dimension.{listed}

-- a dimension of the list, at most 64 qudits, and tables that were made for the dimension
pub record RunTables (d n made_for : ℕ) : Type 0 where
  pub dimension : listed d ≡ true
  pub qudits : n ≤ 64
  pub made : made_for ≡ d

-- For `count` operations that take one, from choice c on: a choice below d each.
pub record Supplied (d c count : ℕ) (choices : List ℕ) : Type 0 where
  pub enough : c + count ≤ length choices
  pub below : (i : ℕ) → c ≤ i → i < c + count → get_or choices i 0 < d
