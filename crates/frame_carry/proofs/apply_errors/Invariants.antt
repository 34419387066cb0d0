use Rattle.std.proofs.Common.{◌≡◌}
use Rattle.row.specs.Row.{Powers}
use Rattle.book.specs.Circuits.{error_list}
use Rattle.runs.specs.Frame.{errors_on_frame}
use Rattle.frame_carry.proofs.apply_errors.Given as goal

abbrev pub invariant-loop-i : goal.invariant-loop-i
invariant-loop-i l = record {
  struck : l.frame ≡ errors_on_frame l.m.d l.circuit.n (error_list l.circuit) l.k l.fn.frame l.i;
  frame : Powers l.m.d l.circuit.n l.frame;
}
