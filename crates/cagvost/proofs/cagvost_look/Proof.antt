-- `cagvost::cagvost_look` meets its contract.
-- Assumes nothing.
use borrow.Author.Rules.{rules}
use Rattle.cagvost.proofs.cagvost_look.Statement.{statement}
use Rattle.cagvost.proofs.cagvost_look.Tie as tie

returns : tie.Need-returns
returns c = c.look.ensures

pub cagvost_look_spec : {M : Type 1} → statement M
cagvost_look_spec = tie.close (tie.spec
    (λ c κs. search rules)
    returns)
