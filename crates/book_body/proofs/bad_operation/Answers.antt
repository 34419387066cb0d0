-- A body of gates and measurements alone has nothing bad.
use Rattle.std.proofs.Common.{sym, ◌∙◌}
use Rattle.book_body.proofs.Plain.{nothing_bad}
use Rattle.book_body.proofs.bad_operation.Goals as goal

pub returns-then-plain : goal.returns-then-plain
returns-then-plain c = sym (nothing_bad c.args.d c.args.n c.args.ops.now (sym c.requires ∙ c.if-plain.true))
