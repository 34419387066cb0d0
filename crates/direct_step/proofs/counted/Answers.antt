-- What is counted by a code is what the operation counts.
use Rattle.direct_step.proofs.Counting.{counts}
use Rattle.direct_step.proofs.counted.Goals as goal

pub returns-clause-measurements : goal.returns-clause-measurements
returns-clause-measurements c = rw (c.from.ensures, c.code-code.ensures, (counts c.args.circuit.now c.args.k c.requires.inside c.requires.allowed).0)

pub returns-clause-choices : goal.returns-clause-choices
returns-clause-choices c = rw (c.from-2.ensures, c.code-code.ensures, (counts c.args.circuit.now c.args.k c.requires.inside c.requires.allowed).1)
