-- The stages so far are made, and the run stands where its number says.
use Rattle.validity.specs.Validity.{Valid}
use Rattle.book.specs.Circuits.{operation_list, error_list}
use Rattle.runs.specs.Direct.{state_of}
use Rattle.halts.proofs.Progress.{Going}
use Rattle.direct_run.proofs.run_by.Given as goal

abbrev pub invariant-loop-k : goal.invariant-loop-k
invariant-loop-k l = record {
  going : Going l.circuit.d l.circuit.n (operation_list l.circuit) (error_list l.circuit) l.circuit.choices.now l.from (state_of l.fn.t l.fn.results) l.k l.at (state_of l.t l.results);
  valid : Valid l.circuit.d l.circuit.n l.t;
}
