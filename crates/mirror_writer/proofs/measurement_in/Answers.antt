-- Where no choice is taken, no operation is a measurement.
use Rattle.std.proofs.Common.{length, sym, ◌∙◌}
use native.Mathlib.Nat.{le_refl}
use Rattle.book.specs.Decoded.{operations_of}
use Rattle.mirror_writer.proofs.Books.{none_found}
use Rattle.mirror_writer.proofs.measurement_in.Goals as goal

pub returns-then-choices-eq0 : goal.returns-then-choices-eq0
returns-then-choices-eq0 c =
    let ops = operations_of c.args.d c.args.n c.args.ops.now in
    sym (none_found ops c.requires.names (length ops) (le_refl (length ops)) (sym c.requires.counted ∙ c.if-choices-eq0.true))
