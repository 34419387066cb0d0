-- The operations so far are done, and the run stands where they have led.
use Rattle.std.proofs.Common.{◌≡◌}
use Rattle.validity.specs.Validity.{Valid}
use Rattle.circuit.specs.Circuit.{measured, chosen}
use Rattle.book.specs.Circuits.{operation_list}
use Rattle.runs.specs.Direct.{state_of}
use Rattle.clean_run.proofs.Steps.{so_far}
use Rattle.clean_run.proofs.run_by.Given as goal

abbrev pub invariant-loop-k : goal.invariant-loop-k
invariant-loop-k l = record {
  done : state_of l.t l.results ≡ so_far l.circuit.d l.circuit.n (operation_list l.circuit) l.circuit.choices.now (state_of l.fn.t l.fn.results) l.k;
  measured : l.at.measurements ≡ measured (operation_list l.circuit) l.k;
  chosen : l.at.choices ≡ chosen (operation_list l.circuit) l.k;
  valid : Valid l.circuit.d l.circuit.n l.t;
}
