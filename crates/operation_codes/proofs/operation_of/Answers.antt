-- An accepted entry is the operation of its code.
use Rattle.std.proofs.Common.{sym}
use Rattle.operation_codes.proofs.Codes.{is-coded}
use Rattle.operation_codes.proofs.operation_of.Goals as goal

pub returns : goal.returns
returns c = rw (c.coded.ensures, c.at.ensures) (sym (is-coded c.args.d c.args.n c.args.ops.now c.args.k c.requires.0 c.requires.1))
