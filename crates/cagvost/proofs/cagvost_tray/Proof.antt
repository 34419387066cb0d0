-- `cagvost::cagvost_tray` meets its contract.
-- Assumes nothing.
use borrow.Author.Rules.{rules}
use Rattle.cagvost.proofs.cagvost_tray.Statement.{statement}
use Rattle.cagvost.proofs.cagvost_tray.Tie as tie

returns : tie.Need-returns
returns c = c.tray_run.ensures

pub cagvost_tray_spec : {M : Type 1} → statement M
cagvost_tray_spec = tie.close (tie.spec
    (λ c κs. search rules)
    (λ c. search rules)
    returns)
