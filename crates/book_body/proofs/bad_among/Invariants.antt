-- The entries passed are good, and `earlier` counts the measurements among them.
use Rattle.std.proofs.Common.{◌≡◌, ◌≤◌, None}
use Rattle.search.specs.Search.{first_not}
use Rattle.book_body.specs.Body.{measurements, good_operation}
use Rattle.book_body.proofs.bad_among.Given as goal

abbrev pub invariant-loop-k : goal.invariant-loop-k
invariant-loop-k l = record {
  few : l.earlier ≤ l.k;
  earlier : l.earlier ≡ measurements l.ops l.k;
  good : first_not (good_operation l.d l.n l.ops) l.k ≡ None;
}
