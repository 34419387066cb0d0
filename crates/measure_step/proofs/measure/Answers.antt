-- What is measured, and the result that is noted, are those of a look.
use Rattle.measure_step.proofs.Looked.{noted}
use Rattle.measure_step.proofs.measure.Goals as goal

pub returns : goal.returns
returns c =
    let a = c.args in
    let given = c.measured-given.ensures in (
      rw (noted a.d a.n a.choices.now a.c a.q a.j a.t.now a.results.now _, c.write_result.ensures, given.rows, given.outcome, given.mark),
      given.valid,
    )
