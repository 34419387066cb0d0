use Rattle.writer.proofs.LaidOut.{laid_out}
use Rattle.writer.proofs.Parts.lay_book.Goals as goal

pub returns : goal.returns
returns c =
    let p = c.args.self.now in
    rw (c.lay-4.ensures, c.lay-3.ensures, c.lay-2.ensures, c.lay.ensures, c.head_of-head.ensures)
    (laid_out p.d p.n p.ops.now p.errors.now p.choices.now c.args.out.now)
