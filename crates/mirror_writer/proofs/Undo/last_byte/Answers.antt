use borrow.Author.Tests.{eq-eqb}
use Rattle.modular.specs.Dimension.{inverse}
use Rattle.row.proofs.Fill.{tab-get}
use Rattle.mirror_writer.proofs.Undo.last_byte.Goals as goal

pub returns-then-code-eq5 : goal.returns-then-code-eq5
returns-then-code-eq5 c =
    let s = c.args.self.now in
    rw (eq-eqb _ 5 c.if-code-eq5.true, c.from.ensures, s.inverse_table) (tab-get (inverse s.d) 32 c.args.last 0 c.requires.small)
