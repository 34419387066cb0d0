use Rattle.std.proofs.Common.{◌≡◌, ltb}
use Rattle.search.specs.Search.{all}
use Rattle.validity.specs.Validity.{byte_below}
use Rattle.validity_test.proofs.bytes_below.Given as goal

abbrev pub invariant-loop-b : goal.invariant-loop-b
invariant-loop-b l = ltb l.most l.d ≡ all (byte_below l.d l.t) l.b-index
