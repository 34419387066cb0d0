-- The errors of the place, and then the operation, make the step.
use Rattle.book.specs.Circuits.{operation_list, error_list}
use Rattle.measure_step.proofs.Supply.{supplied, roomy}
use Rattle.direct_step.proofs.Steps.{step_is, gate-is, next-step}
use Rattle.direct_step.proofs.advance.Goals as goal

pub returns-then-code-lt6-clause-state : goal.returns-then-code-lt6-clause-state
returns-then-code-lt6-clause-state c =
    let circuit = c.args.circuit.now in
    step_is circuit.d circuit.n (operation_list circuit) (error_list circuit) circuit.choices.now c.args.k c.args.t.now c.args.results.now c.requires.chosen c.requires.stands.count c.apply_errors-entry.ensures.rows
    (gate-is circuit c.args.k _ _ _ c.args.results.now c.requires.inside (c.requires.accepted.lists.operations c.args.k c.requires.inside) (rw c.code.ensures at c.if-code-lt6.true) c.operate_gate.ensures.rows)

pub returns-then-code-lt6-clause-stands : goal.returns-then-code-lt6-clause-stands
returns-then-code-lt6-clause-stands c =
    next-step c.requires.stands c.apply_errors-entry.ensures.reached c.counted-next.ensures.entry c.counted-next.ensures.measurements

pub operate-requires-clause-supplied : goal.operate-requires-clause-supplied
operate-requires-clause-supplied c = supplied c.requires.accepted.lists c.args.k c.requires.inside c.requires.chosen

pub operate-requires-clause-room : goal.operate-requires-clause-room
operate-requires-clause-room c = roomy (operation_list c.args.circuit.now) c.args.results.now c.requires.room c.args.k c.requires.inside c.requires.stands.count

pub returns-clause-state : goal.returns-clause-state
returns-clause-state c =
    let circuit = c.args.circuit.now in
    step_is circuit.d circuit.n (operation_list circuit) (error_list circuit) circuit.choices.now c.args.k c.args.t.now c.args.results.now c.requires.chosen c.requires.stands.count c.apply_errors-entry.ensures.rows c.operate.ensures.state

pub returns-clause-stands : goal.returns-clause-stands
returns-clause-stands c =
    next-step c.requires.stands c.apply_errors-entry.ensures.reached c.counted-next.ensures.entry c.counted-next.ensures.measurements
