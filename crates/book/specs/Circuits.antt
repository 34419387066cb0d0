-- A circuit's bodies as lists.
use Rattle.std.specs.Prelude.{◌≡◌, true, List, ◌≤◌}
use Rattle.modular.specs.Dimension.{listed}
use Rattle.operation.specs.declared.Operation.{Operation}
use Rattle.operation.specs.declared.WeylError.{WeylError}
use Rattle.circuit.specs.Circuit.{Accepted}
use Rattle.book.specs.Decoded.{operations_of, errors_of}
use Rattle.book.specs.declared.bodies.Circuit.{Circuit}

abbrev pub operation_list : Circuit → List Operation
operation_list c = operations_of c.d c.n c.ops.now

abbrev pub error_list : Circuit → List WeylError
error_list c = errors_of c.errors.now

-- none of 1 to 7 refuses a book of these bodies
pub record AcceptedCircuit (c : Circuit) : Type 0 where
  pub dimension : listed c.d ≡ true
  pub qudits : c.n ≤ 64
  pub lists : Accepted c.d c.n (operation_list c) (error_list c) c.choices.now
