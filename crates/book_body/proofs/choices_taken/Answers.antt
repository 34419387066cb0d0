-- Where no operation is a reset, each that takes a choice is a measurement.
use Rattle.std.proofs.Common.{sym, ◌∙◌}
use Rattle.book_body.proofs.Plain.{one_each}
use Rattle.book_body.proofs.choices_taken.Goals as goal

pub returns-then-plain : goal.returns-then-plain
returns-then-plain c = c.requires.1 ∙ sym (one_each c.args.d c.args.n c.args.ops.now (sym c.requires.0 ∙ c.if-plain.true))
