-- The parts of a step make the step.
use Rattle.std.proofs.Common.{ap, arith}
use Rattle.circuit.specs.Circuit.{tally}
use Rattle.book.specs.Circuits.{operation_list}
use Rattle.book.proofs.Circuits.{entry-inside}
use Rattle.runs.specs.Raised.{frame_before}
use Rattle.runs.proofs.Results.{measured-step, measured_in}
use Rattle.frame_carry.proofs.advance.Goals as goal

pub operation_of-operation-requires : goal.operation_of-operation-requires
operation_of-operation-requires c =
    let circuit = c.args.circuit.now in
    (entry-inside circuit c.args.k c.requires.inside, c.requires.allowed c.args.k c.requires.inside)

pub perform-requires-clause-room : goal.perform-requires-clause-room
perform-requires-clause-room c =
    let ops = operation_list c.args.circuit.now in
    omega (arith, measured_in ops c.args.k c.requires.inside, ap tally c.operation_of-operation.ensures)

pub perform-requires-clause-noted : goal.perform-requires-clause-noted
perform-requires-clause-noted c =
    let ops = operation_list c.args.circuit.now in
    record {
      room = omega (arith, measured_in ops c.args.k c.requires.inside, ap tally c.operation_of-operation.ensures);
      below = c.requires.noted.below;
    }

pub overflow_add-result : goal.overflow_add-result
overflow_add-result c =
    let ops = operation_list c.args.circuit.now in
    omega (arith, measured_in ops c.args.k c.requires.inside, ap tally c.operation_of-operation.ensures)

pub returns-clause-moved : goal.returns-clause-moved
unfolding frame_before
returns-clause-moved c =
    rw (← c.operation_of-operation.ensures, ← c.apply_errors-entry.ensures.struck) c.perform.ensures.moved

pub returns-clause-shifted : goal.returns-clause-shifted
unfolding frame_before
returns-clause-shifted c =
    rw (← c.operation_of-operation.ensures, ← c.apply_errors-entry.ensures.struck, ← c.requires.position.count) c.perform.ensures.shifted

pub returns-clause-noted : goal.returns-clause-noted
unfolding frame_before
returns-clause-noted c =
    rw (← c.operation_of-operation.ensures, ← c.apply_errors-entry.ensures.struck, ← c.requires.position.count) c.perform.ensures.noted

pub returns-clause-position : goal.returns-clause-position
returns-clause-position c =
    let ops = operation_list c.args.circuit.now in
    record {
      reached = c.apply_errors-entry.ensures.reached;
      count = omega (arith, c.requires.position.count, measured-step ops c.args.k, ap tally c.operation_of-operation.ensures);
    }
