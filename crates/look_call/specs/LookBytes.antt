-- A look takes the tableau and a qudit, and tells whether a measurement there would be free, or certain and with which outcome.
use Rattle.std.specs.Prelude.{List, ℕ, Result, Ok, Err, eqb, ltb}
use Rattle.answer.specs.declared.Refusal.{Refusal}
use Rattle.answer.specs.Refusal.{number_of}
use Rattle.search.specs.Search.{unless}
use Rattle.saved_tableau.specs.Saved.{dimension_in, qudits_in, rows_in}
use Rattle.saved_tableau.specs.Test.{test_number}
use Rattle.measurement.specs.declared.Look.{Look}
use Rattle.measurement.specs.declared.Look.TheVariants.{Free, Certain}
use Rattle.measurement.specs.Look.{look}
use Rattle.look_call.specs.declared.LookAnswer.{LookAnswer}

-- 0, then 1 and 0 for free, or 0 and the outcome for certain
abbrev pub told : Look → LookAnswer
told (Free k) = record { number = 0; free = 1; outcome = 0 }
told (Certain outcome) = record { number = 0; free = 0; outcome = outcome }

abbrev pub look_refused : (number : ℕ) → LookAnswer
look_refused number = record { number = number; free = 0; outcome = 0 }

-- what a look that may refuse returns
abbrev pub look_answered : Result Look Refusal → LookAnswer
look_answered (Ok l) = told l
look_answered (Err r) = look_refused (number_of r)

-- Checked as in the tableau test; 13, with 0, when the qudit looked at is not below n, is tested last. Looking changes no byte: the tableau
-- is lent for reading alone.
unfoldable pub look_bytes : List ℕ → ℕ → LookAnswer
look_bytes t qudit =
    unless (eqb (test_number t) 0) (look_refused (test_number t))
    (unless (ltb qudit (qudits_in t)) (look_refused 13) (told (look (dimension_in t) (qudits_in t) (rows_in t) qudit)))
