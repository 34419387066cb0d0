use Rattle.book.specs.Decoded.{errors_of}
use Rattle.runs.specs.Reached.{Passing}
use Rattle.place_errors.specs.Places.{OfPlace}
use Rattle.place_errors.proofs.end_of_place.Given as goal

abbrev pub invariant-loop-i : goal.invariant-loop-i
invariant-loop-i l = record {
  passing : Passing (errors_of l.errors) l.i l.k;
  of_place : OfPlace (errors_of l.errors) l.k l.j l.i;
}
