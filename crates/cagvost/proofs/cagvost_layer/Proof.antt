-- `cagvost::cagvost_layer` meets its contract.
-- Assumes nothing.
use borrow.Author.Rules.{rules}
use Rattle.cagvost.proofs.cagvost_layer.Statement.{statement}
use Rattle.cagvost.proofs.cagvost_layer.Tie as tie

returns : tie.Need-returns
returns c = c.lay.ensures

pub cagvost_layer_spec : {M : Type 1} → statement M
cagvost_layer_spec = tie.close (tie.spec
    (λ c κs. search rules)
    (λ c. search rules)
    returns)
