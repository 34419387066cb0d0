-- `cagvost::cagvost_write` meets its contract.
-- Assumes nothing.
use borrow.Author.Rules.{rules}
use Rattle.cagvost.proofs.cagvost_write.Statement.{statement}
use Rattle.cagvost.proofs.cagvost_write.Tie as tie

returns : tie.Need-returns
returns c = c.write.ensures

pub cagvost_write_spec : {M : Type 1} → statement M
cagvost_write_spec = tie.close (tie.spec
    (λ c κs. search rules)
    (λ c. search rules)
    returns)
