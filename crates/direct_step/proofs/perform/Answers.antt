-- What the operation's kind does.
use Rattle.runs.specs.Direct.{direct_kind}
use Rattle.direct_step.proofs.perform.Goals as goal

pub returns-in-Measure-clause-state : goal.returns-in-Measure-clause-state
unfolding direct_kind
returns-in-Measure-clause-state c = rw c.in-Measure.is c.measure.ensures.0

pub returns-in-Reset-clause-state : goal.returns-in-Reset-clause-state
unfolding direct_kind
returns-in-Reset-clause-state c = rw (c.in-Reset.is, c.reset.ensures.0)

pub returns-in-Correct-clause-state : goal.returns-in-Correct-clause-state
unfolding direct_kind
returns-in-Correct-clause-state c = rw (c.in-Correct.is, c.correct.ensures.rows)
