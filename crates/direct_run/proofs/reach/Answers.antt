-- The tableau of a tested book is valid for it.
use Rattle.saved_tableau_laws.proofs.Exactly.{valid-rows}
use Rattle.direct_run.proofs.reach.Goals as goal

pub run-requires-clause-valid : goal.run-requires-clause-valid
run-requires-clause-valid c = rw (c.of-circuit.ensures.d, c.of-circuit.ensures.n) (valid-rows c.args.t.now c.requires.0.room c.requires.0.for-book)
