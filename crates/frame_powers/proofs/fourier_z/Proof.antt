-- `frame_powers::fourier_z` meets its contract.
-- Assumes nothing.
use borrow.Author.Tests.{ne_eqb}
use borrow.Author.Rules.{rules}
use Rattle.frame_powers.proofs.fourier_z.Statement.{statement}
use Rattle.frame_powers.proofs.fourier_z.Tie as tie

returns : tie.Need-returns-in-1
returns c = rw c.in-1.is

returns-2 : tie.Need-returns-in-2
returns-2 c = rw c.in-2.is c.negative.ensures

returns-3 : tie.Need-returns-in_default
returns-3 c = rw (ne_eqb _ 1 c.in_default.in_default-own.rest.0.1, ne_eqb _ 2 c.in_default.in_default-own.rest.1) c.negative-in_default.ensures

pub fourier_z_spec : {M : Type 1} → statement M
fourier_z_spec =
    tie.close (tie.spec
    (λ c κs. search rules)
    (λ c κs. search rules)
    returns
    returns-2
    returns-3)
