-- The step is made of the entry, and a gate keeps a tableau valid.
use Rattle.std.proofs.Common.{ap}
use Rattle.modular.proofs.Listed.{dimension}
use Rattle.operation.specs.declared.Step.{Step}
use Rattle.validity.proofs.Exactly.{valid-tableau}
use Rattle.validity_laws.proofs.Keeping.{gate-keeps-valid}
use Rattle.book.proofs.Circuits.{entry-inside}
use Rattle.direct_step.proofs.operate_gate.Goals as goal

pub step_of-step-requires : goal.step_of-step-requires
step_of-step-requires c =
    (entry-inside c.args.circuit.now c.args.k c.requires.inside, c.requires.allowed)

pub gate_rows-requires : goal.gate_rows-requires
gate_rows-requires c =
    rw c.requires.made.made
    (record {
      few = c.requires.made.qudits;
      allowed = rw (ap (λ (step : Step). step.operation) c.step_of-step.ensures) c.requires.allowed;
      rows = valid-tableau _ _ _ c.requires.valid;
    })

pub returns-clause-valid : goal.returns-clause-valid
returns-clause-valid c =
    let done = rw (c.requires.made.made, ap (λ (step : Step). step.operation) c.step_of-step.ensures) at c.gate_rows.ensures in
    rw done (gate-keeps-valid _ _ (dimension _ c.requires.made.dimension) _ c.requires.allowed _ c.requires.valid)
