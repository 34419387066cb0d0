-- `cagvost::cagvost_mirror` meets its contract.
-- Assumes nothing.
use borrow.Author.Rules.{rules}
use Rattle.cagvost.proofs.cagvost_mirror.Statement.{statement}
use Rattle.cagvost.proofs.cagvost_mirror.Tie as tie

returns : tie.Need-returns
returns c = c.mirror.ensures

pub cagvost_mirror_spec : {M : Type 1} → statement M
cagvost_mirror_spec = tie.close (tie.spec
    (λ c κs. search rules)
    (λ c. search rules)
    returns)
