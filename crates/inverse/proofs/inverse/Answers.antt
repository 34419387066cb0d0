use Rattle.std.proofs.Common.{sym}
use Rattle.modular.proofs.Listed.{inverse-below, inverse-past}
use Rattle.inverse.proofs.inverse.Goals as goal

pub returns-then-u-d : goal.returns-then-u-d
returns-then-u-d c = sym (inverse-past c.args.d c.args.u c.if-u-d.true)

pub returns : goal.returns
returns c = rw (c.power.ensures, c.new.ensures) (sym (inverse-below c.args.d c.args.u c.if-u-d.false))
