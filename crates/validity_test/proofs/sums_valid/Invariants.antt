use Rattle.std.proofs.Common.{◌≡◌}
use Rattle.search.specs.Search.{all}
use Rattle.validity_test.specs.Sums.{sums_pair_well}
use Rattle.validity_test.proofs.sums_valid.Given as goal

abbrev pub invariant-loop-k : goal.invariant-loop-k
invariant-loop-k l = l.good ≡ all (sums_pair_well l.m.d l.n l.plus l.minus l.i) l.k
