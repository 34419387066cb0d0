-- What a measurement does to the rows, and what it gives, by what the look at its qudit told.
use Rattle.std.specs.Prelude.{List, ℕ, get_or}
use Rattle.measurement.specs.declared.Look.{Look}
use Rattle.measurement.specs.declared.Look.TheVariants.{Free, Certain}
use Rattle.measurement.specs.Collapse.{collapse}

module _ (d n : ℕ) (choices : List ℕ) where
  unfoldable pub rows_measured : (c q : ℕ) → List ℕ → Look → List ℕ
  rows_measured c q t (Free k) = collapse d n q k (get_or choices c 0) t
  rows_measured c q t (Certain outcome) = t

  unfoldable pub outcome_of : (c : ℕ) → Look → ℕ
  outcome_of c (Free k) = get_or choices c 0
  outcome_of c (Certain outcome) = outcome

-- 0 certain or 1 free
unfoldable pub mark_of : Look → ℕ
mark_of (Free k) = 1
mark_of (Certain outcome) = 0
