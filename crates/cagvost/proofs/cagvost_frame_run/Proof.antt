-- `cagvost::cagvost_frame_run` meets its contract.
-- Assumes nothing.
use borrow.Author.Rules.{rules}
use Rattle.cagvost.proofs.cagvost_frame_run.Statement.{statement}
use Rattle.cagvost.proofs.cagvost_frame_run.Tie as tie

returns : tie.Need-returns
returns c = c.frame_run.ensures

pub cagvost_frame_run_spec : {M : Type 1} → statement M
cagvost_frame_run_spec = tie.close (tie.spec
    (λ c κs. search rules)
    (λ c. search rules)
    (λ c. search rules)
    (λ c. search rules)
    (λ c. search rules)
    returns)
