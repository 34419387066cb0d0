-- ω^r alone, as a row.
use Rattle.std.specs.Prelude.{List, ℕ}
use Rattle.row.specs.Row.{row_of}

abbrev pub none : ℕ → ℕ
none s = 0

unfoldable pub scalar : ℕ → ℕ → List ℕ
scalar n r = row_of n none r
