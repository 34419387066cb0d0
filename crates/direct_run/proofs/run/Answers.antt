-- The rows come back behind the same two bytes.
use Rattle.modular.proofs.Listed.{dimension}
use Rattle.saved_tableau_laws.proofs.Rows.{rows-part}
use Rattle.direct_run.proofs.Answers.{tableau-ends, nothing_done}
use Rattle.direct_run.proofs.run.Goals as goal

pub returns-then-from-next : goal.returns-then-from-next
returns-then-from-next c = nothing_done _ _ _ _ _ c.args.from c.args.next c.args.t.now c.args.results.now c.if-from-next.true

pub new-tables-requires : goal.new-tables-requires
new-tables-requires c = let k = dimension _ c.requires.accepted.dimension in record { low = k.low; high = k.high }

pub returns : goal.returns
returns c = let t = c.args.t.now in tableau-ends t (rw (rows-part t) at c.run_by.ensures)
