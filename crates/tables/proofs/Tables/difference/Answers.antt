-- −y is d − y, which the table reduces.
use Rattle.std.proofs.Common.{◌+◌, arith}
use Rattle.modular.proofs.Residue.{add-neg}
use Rattle.tables.proofs.Tables.difference.Goals as goal

pub returns : goal.returns
returns c =
    let t = c.args.self.now in
    let made = t.rests_made (c.from.result + c.from-2.result) (omega arith) in
    let e = add-neg t.d c.args.x c.args.y c.requires.y_below in
    cc
