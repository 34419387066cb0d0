use Rattle.std.proofs.Common.{refl, rules, tests}
use Rattle.search.proofs.Range.{all_of_range}
use Rattle.validity_test.proofs.rows_valid.Goals as goal

pub returns : goal.returns
returns c = all_of_range _ _ refl c.all.ensures.ran (λ x q k. search (rules, tests)) (λ x q k. search (rules, tests))
