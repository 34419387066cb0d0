use Rattle.std.proofs.Common.{◌∙◌}
use Rattle.row.specs.Row.{pairing}
use Rattle.search.proofs.Search.{all_same}
use Rattle.validity.specs.Validity.{row_valid}
use Rattle.validity_test.proofs.row_valid_by.Goals as goal

pub returns : goal.returns
unfolding row_valid pairing
returns c =
    c.sums_valid.ensures
    ∙ all_same _ _ _ (λ j l. rw (c.row_sums.ensures.plus_sum j l, c.row_sums.ensures.minus_sum j l))
