use Rattle.std.proofs.Common.{rules, add-one}
use Rattle.search.specs.Search.{all}
use Rattle.validity_test.proofs.sums_valid.Goals as goal

pub loop-k-init : goal.loop-k-init
unfolding all
loop-k-init c = search rules

pub loop-k-preserved : goal.loop-k-preserved
unfolding all
loop-k-preserved c = rw (add-one c.loop-k.k, ← c.loop-k.invariant, c.reduce_difference.ensures, c.wanted.ensures)
