-- The entries passed are good, and `last` is the place of the last of them.
use Rattle.std.proofs.Common.{◌≡◌, None}
use Rattle.search.specs.Search.{first_not}
use Rattle.book_body.specs.Body.{place_before, good_error}
use Rattle.book_body.proofs.bad_error.Given as goal

abbrev pub invariant-loop-k : goal.invariant-loop-k
invariant-loop-k l = record {
  last : l.last ≡ place_before l.errors l.k;
  good : first_not (good_error l.d l.n l.count l.errors) l.k ≡ None;
}
