-- Once and three times the phase loses a·b.
use native.Mathlib.Nat.{mod-mod}
use borrow.Author.Tests.{ne_eqb}
use Rattle.gate.proofs.fourier_phase.Goals as goal

pub returns-else-k-eq2 : goal.returns-else-k-eq2
returns-else-k-eq2 c = rw (ne_eqb _ 2 c.if-k-eq2.false, c.difference.ensures, c.product.ensures, mod-mod)
