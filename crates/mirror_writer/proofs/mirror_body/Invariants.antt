use Rattle.std.proofs.Common.{◌≡◌}
use Rattle.book.specs.Decoded.{operations_of}
use Rattle.mirror_book.specs.Mirrored.{mirror_at}
use Rattle.mirror_writer.proofs.Written.{written}
use Rattle.mirror_writer.proofs.mirror_body.Given as goal

abbrev pub invariant-loop-k : goal.invariant-loop-k
invariant-loop-k l = l.body ≡ written (mirror_at l.d (operations_of l.d l.n l.ops)) l.initial.body l.k
