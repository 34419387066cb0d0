use Rattle.std.proofs.Common.{◌≡◌, None}
use Rattle.search.specs.Search.{first_not}
use Rattle.book.specs.Decoded.{operations_of}
use Rattle.mirror_book.specs.MirrorBook.{gate_at}
use Rattle.mirror_writer.proofs.first_measurement.Given as goal

abbrev pub invariant-loop-k : goal.invariant-loop-k
invariant-loop-k l = first_not (gate_at (operations_of l.d l.n l.ops)) l.k ≡ None
