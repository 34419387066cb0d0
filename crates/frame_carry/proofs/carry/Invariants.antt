use Rattle.row.specs.Row.{Powers}
use Rattle.operation_codes.specs.Allowed.{AllAllowed, AllNamed}
use Rattle.circuit.specs.Circuit.{measurement_count}
use Rattle.book.specs.Circuits.{operation_list, error_list}
use Rattle.frame_carry.specs.Shifted.{Noted}
use Rattle.frame_carry.proofs.Steps.{FrameCarried}
use Rattle.frame_carry.proofs.carry.Given as goal

abbrev pub invariant-loop-k : goal.invariant-loop-k
invariant-loop-k l = record {
  so_far : (allows : AllAllowed l.circuit.d l.circuit.n (operation_list l.circuit)) (names : AllNamed (operation_list l.circuit))
      → FrameCarried l.circuit.d l.circuit.n (operation_list l.circuit) (error_list l.circuit) l.fn.frame l.fn.results allows names l.k l.at l.frame l.results l.shifts;
  noted : Noted l.circuit.d (measurement_count (operation_list l.circuit)) l.at.measurements l.shifts;
  frame : Powers l.circuit.d l.circuit.n l.frame;
}
