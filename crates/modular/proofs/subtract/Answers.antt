use Rattle.std.proofs.Common.{arith}
use Rattle.std.proofs.lemmas.Grind.{common_steps}
use Rattle.modular.proofs.Residue.{add-neg}
use Rattle.modular.proofs.subtract.Goals as goal

pub returns : goal.returns
returns c = rw (add-neg c.args.d c.args.x c.args.y c.requires.2) (grind (arith, common_steps))
