-- The sizes for which the arithmetic on rows is made.
use Rattle.std.specs.Prelude.{ℕ, ◌≤◌}

pub record Sizes (d n : ℕ) : Type 0 where
  pub low : 3 ≤ d
  pub high : d ≤ 31
  pub qudits : n ≤ 64
