-- X to the minus what is measured clears the qudit.
use Rattle.modular.proofs.Listed.{dimension}
use Rattle.measure_step.proofs.Fits.{minus-valid}
use Rattle.measure_step.proofs.Looked.{cleared}
use Rattle.measure_step.proofs.reset.Goals as goal

pub returns : goal.returns
returns c =
    let a = c.args in
    let given = c.measured-given.ensures in
    let done = rw c.requires.0.made at c.minus_x_rows.ensures in (
      rw (cleared a.d a.n a.choices.now a.c a.q a.t.now _, ← given.rows, ← given.outcome, ← c.value.ensures) done,
      minus-valid _ (dimension a.d c.requires.0.dimension) _ given.valid c.requires.1 done,
    )
