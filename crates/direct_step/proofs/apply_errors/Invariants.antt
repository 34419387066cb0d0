-- The run is passing through the errors of place k, and those passed have struck the rows.
use Rattle.std.proofs.Common.{◌≡◌}
use Rattle.validity.specs.Validity.{Valid}
use Rattle.book.specs.Circuits.{error_list}
use Rattle.runs.specs.Reached.{Passing}
use Rattle.runs.specs.Direct.{errors_on_rows}
use Rattle.direct_step.proofs.apply_errors.Given as goal

abbrev pub invariant-loop-i : goal.invariant-loop-i
invariant-loop-i l = record {
  passing : Passing (error_list l.circuit) l.i l.k;
  so_far : l.t ≡ errors_on_rows l.circuit.d l.circuit.n (error_list l.circuit) l.k l.fn.t l.i;
  valid : Valid l.circuit.d l.circuit.n l.t;
}
