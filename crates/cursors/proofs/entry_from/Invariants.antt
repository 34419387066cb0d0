-- Every entry passed has a lower place.
use Rattle.book.specs.Circuits.{error_list}
use Rattle.cursors.proofs.Cursors.{Spent}
use Rattle.cursors.proofs.entry_from.Given as goal

abbrev pub invariant-loop-j : goal.invariant-loop-j
invariant-loop-j l = Spent (error_list l.circuit) l.j l.k
