-- `cagvost::cagvost_go_on` meets its contract.
-- Assumes nothing.
use borrow.Author.Rules.{rules}
use Rattle.cagvost.proofs.cagvost_go_on.Statement.{statement}
use Rattle.cagvost.proofs.cagvost_go_on.Tie as tie

returns : tie.Need-returns
returns c = c.go_on.ensures

pub cagvost_go_on_spec : {M : Type 1} → statement M
cagvost_go_on_spec = tie.close (tie.spec
    (λ c κs. search rules)
    (λ c. search rules)
    (λ c. search rules)
    returns)
