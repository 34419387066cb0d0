-- `direct_run::buffers_fit` meets its contract.
-- Assumes nothing.
use native.Mathlib.Omega.{arith}
use borrow.Author.Rules.{rules}
use Rattle.tableau.proofs.Sized.{sized-bytes}
use Rattle.measure_step.proofs.Room.{halves}
use Rattle.direct_run.proofs.buffers_fit.Statement.{statement}
use Rattle.direct_run.proofs.buffers_fit.Tie as tie

mul-result-3 : tie.Need-overflow_mul-result-3
mul-result-3 c = omega (arith, sized-bytes c.args.n c.requires)

add-result-2 : tie.Need-overflow_add-result-2
add-result-2 c = omega (arith, sized-bytes c.args.n c.requires)

returns : tie.Need-returns
returns c = rw halves

pub buffers_fit_spec : {M : Type 1} → statement M
buffers_fit_spec = tie.close (tie.spec
    (λ c. search rules)
    (λ c. search rules)
    (λ c. search rules)
    mul-result-3
    add-result-2
    returns)
