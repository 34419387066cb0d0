-- `cagvost::cagvost_test` meets its contract.
-- Assumes nothing.
use borrow.Author.Rules.{rules}
use Rattle.cagvost.proofs.cagvost_test.Statement.{statement}
use Rattle.cagvost.proofs.cagvost_test.Tie as tie

returns : tie.Need-returns
returns c = c.test.ensures

pub cagvost_test_spec : {M : Type 1} → statement M
cagvost_test_spec = tie.close (tie.spec
    (λ c κs. search rules)
    returns)
