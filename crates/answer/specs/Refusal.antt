-- The list of refusals: the number and the place that each returns.
use Rattle.std.specs.Prelude.{List, ◌++◌, ℕ, Result, Ok, Err, codes}
use Rattle.std.specs.Fmt.{decimal}
use Rattle.answer.specs.declared.Answer.{Answer}
use Rattle.answer.specs.declared.Refusal.{Refusal}
use Rattle.answer.specs.declared.Refusal.TheVariants.{
  Header,
  Dimension,
  Qudits,
  Contents,
  Operation,
  Error,
  Shot,
  Choice,
  Length,
  Rows,
  Table,
  Measurement,
  Number,
}

-- Number 10 is not used again.
abbrev pub number_of : Refusal → ℕ
number_of Header = 1
number_of Dimension = 2
number_of Qudits = 3
number_of (Contents entry) = 4
number_of (Operation index) = 5
number_of (Error index) = 6
number_of (Shot shot) = 6
number_of (Choice index) = 7
number_of Length = 8
number_of Rows = 9
number_of Table = 11
number_of (Measurement index) = 12
number_of Number = 13

-- 0 where the list has no place.
abbrev pub place_of : Refusal → ℕ
place_of Header = 0
place_of Dimension = 0
place_of Qudits = 0
place_of (Contents entry) = entry
place_of (Operation index) = index
place_of (Error index) = index
place_of (Shot shot) = shot
place_of (Choice index) = index
place_of Length = 0
place_of Rows = 0
place_of Table = 0
place_of (Measurement index) = index
place_of Number = 0

-- the line that the program prints, without its end
abbrev pub words : Refusal → List ℕ
words r = codes "refused " ++ decimal (number_of r) ++ codes " at " ++ decimal (place_of r)

-- what an entry point that refuses returns
abbrev pub refusal : Refusal → Answer
refusal r = record { number = number_of r; place = place_of r }

-- what one that counts returns
abbrev pub counted : Result ℕ Refusal → Answer
counted (Ok count) = record { number = 0; place = count }
counted (Err r) = refusal r

-- what one that has nothing to count returns
abbrev pub tested : Result (Unit {0}) Refusal → Answer
tested (Ok u) = record { number = 0; place = 0 }
tested (Err r) = refusal r
