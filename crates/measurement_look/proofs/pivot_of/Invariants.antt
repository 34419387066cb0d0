-- Each stabilizer passed commutes with Z on q.
use Rattle.std.proofs.Common.{◌≡◌, None}
use Rattle.search.specs.Search.{first_not}
use Rattle.measurement.specs.Look.{commutes}
use Rattle.measurement_look.proofs.pivot_of.Given as goal

abbrev pub invariant-loop-k : goal.invariant-loop-k
invariant-loop-k l = first_not (commutes l.n l.t l.q) l.k ≡ None
