-- X to the minus any result keeps a tableau valid.
use Rattle.modular.proofs.Listed.{dimension}
use Rattle.measure_step.proofs.Fits.{minus-valid}
use Rattle.direct_step.proofs.correct.Goals as goal

pub returns-clause-valid : goal.returns-clause-valid
returns-clause-valid c = minus-valid _ (dimension c.args.d c.requires.made.dimension) _ c.requires.valid c.requires.qudit (rw c.requires.made.made at c.minus_x_rows.ensures)
