-- The words of a list for all numbers from 0 on.
use Rattle.std.proofs.Common.{◌/◌, ◌∙◌, length, arith, rules, tests}
use Rattle.std.proofs.lemmas.Iterator.{YieldsList-from_range}
use Rattle.std.proofs.lemmas.Iterator.Search.{all_from_yields_List}
use Rattle.search.proofs.Search.{all_of_range}
use Rattle.book_entries.specs.Fits.{plain_at}
use Rattle.book_body.proofs.all_plain.Goals as goal

pub returns : goal.returns
returns c =
    all_from_yields_List (plain_at c.args.d c.args.n c.args.ops.now) _ _ _ c.all.ensures.ran
    (YieldsList-from_range 0 (length c.args.ops.now / 4) (length c.args.ops.now / 4) (cc) (omega arith)) (λ x b q k. search (rules, tests))
    ∙ all_of_range _ _
