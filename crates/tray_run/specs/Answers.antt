-- What a run that may refuse returns.
use Rattle.std.specs.Prelude.{Result, Ok, Err}
use Rattle.answer.specs.declared.Refusal.{Refusal}
use Rattle.answer.specs.Refusal.{number_of, place_of}
use Rattle.tray_run.specs.declared.TrayAnswer.{TrayAnswer}

-- A refusal's third number is 0.
abbrev pub refusal : Refusal → TrayAnswer
refusal r = record { number = number_of r; place = place_of r; shifted = 0 }

abbrev pub answered : Result TrayAnswer Refusal → TrayAnswer
answered (Ok answer) = answer
answered (Err r) = refusal r
