-- Where no stabilizer is a pivot, half the sum of the terms is the outcome.
use Rattle.std.proofs.Common.{sym, ap}
use Rattle.modular.proofs.Listed.{dimension}
use Rattle.measurement.specs.declared.Look.TheVariants.{Certain}
use Rattle.measurement.specs.Look.{look}
use Rattle.measurement_look.proofs.Sums.{certain-outcome}
use Rattle.measurement_look.proofs.look_at.Goals as goal

pub certain-requires-clause-low : goal.certain-requires-clause-low
certain-requires-clause-low c = (dimension _ c.requires.dimension).low

pub certain-requires-clause-high : goal.certain-requires-clause-high
certain-requires-clause-high c = (dimension _ c.requires.dimension).high

pub returns : goal.returns
unfolding look
returns c = rw (← c.in-Some.ensures)

pub returns-in_default : goal.returns-in_default
unfolding look
returns-in_default c =
    let a = c.args in
    let none = sym c.in_default.ensures in
    rw (none, c.certain.ensures) (ap Certain (certain-outcome a.d a.n (dimension _ c.requires.dimension) a.t.now c.requires.valid a.q c.requires.qudit none))
