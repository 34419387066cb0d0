-- x is below d already.
use Rattle.modular.proofs.Residue.{once-rest}
use Rattle.gate.proofs.OnceTimes.multiple.Goals as goal

pub returns : goal.returns
returns c = once-rest c.requires.below
