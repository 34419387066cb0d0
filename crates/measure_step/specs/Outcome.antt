-- What a measurement gave, as the two bytes of a result.
use Rattle.std.specs.Prelude.{ℕ}
use Rattle.measure_step.specs.declared.Outcome.{Outcome}
use Rattle.measure_step.specs.declared.Outcome.TheVariants.{Free, Certain}

abbrev pub value_of : Outcome → ℕ
value_of (Free outcome) = outcome
value_of (Certain outcome) = outcome

-- 0 certain or 1 free
abbrev pub mark_in : Outcome → ℕ
mark_in (Free outcome) = 1
mark_in (Certain outcome) = 0
