-- `cagvost::cagvost_direct_run` meets its contract.
-- Assumes nothing.
use borrow.Author.Rules.{rules}
use Rattle.cagvost.proofs.cagvost_direct_run.Statement.{statement}
use Rattle.cagvost.proofs.cagvost_direct_run.Tie as tie

returns : tie.Need-returns
returns c = c.direct_run.ensures

pub cagvost_direct_run_spec : {M : Type 1} → statement M
cagvost_direct_run_spec = tie.close (tie.spec
    (λ c κs. search rules)
    (λ c. search rules)
    (λ c. search rules)
    returns)
