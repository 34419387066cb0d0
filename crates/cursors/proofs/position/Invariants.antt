-- Both counts are those of the operations passed.
use Rattle.std.proofs.Common.{◌≡◌}
use Rattle.circuit.specs.Circuit.{measured, chosen}
use Rattle.book.specs.Circuits.{operation_list, error_list}
use Rattle.runs.specs.Reached.{Reached}
use Rattle.cursors.proofs.position.Given as goal

abbrev pub invariant-loop-i : goal.invariant-loop-i
invariant-loop-i l = record {
  reached : Reached (error_list l.circuit) l.at.entry l.k;
  measured : l.at.measurements ≡ measured (operation_list l.circuit) l.i;
  chosen : l.at.choices ≡ chosen (operation_list l.circuit) l.i;
}
