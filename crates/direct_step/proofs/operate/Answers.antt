-- The step is made of the entry, whose code is no gate's.
use Rattle.std.proofs.Common.{ap}
use Rattle.operation.specs.declared.Step.{Step}
use Rattle.operation_codes.proofs.Codes.{code-no-gate}
use Rattle.book.proofs.Circuits.{entry-inside}
use Rattle.direct_step.proofs.operate.Goals as goal

pub step_of-step-requires : goal.step_of-step-requires
step_of-step-requires c =
    (entry-inside c.args.circuit.now c.args.k c.requires.inside, c.requires.allowed)

pub perform-requires-clause-no_gate : goal.perform-requires-clause-no_gate
perform-requires-clause-no_gate c =
    let circuit = c.args.circuit.now in
    rw (ap (λ (step : Step). step.operation) c.step_of-step.ensures)
    (code-no-gate circuit.d circuit.n circuit.ops.now c.args.k (entry-inside circuit c.args.k c.requires.inside) c.requires.allowed c.requires.no_gate)
