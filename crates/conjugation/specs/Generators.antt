-- X and Z on one qudit, an error's X^p Z^s, and a row spelled out by these.
use Rattle.std.specs.Prelude.{List, ℕ, zero, suc}
use Rattle.row.specs.Row.{x_of, z_of, phase_of, product, power}
use Rattle.row.specs.Generators.{x_with, z_with}
use Rattle.row_laws.specs.Scalar.{scalar}
use Rattle.operation.specs.declared.WeylError.{WeylError}

abbrev pub x_on : ℕ → ℕ → List ℕ
x_on n q = x_with n q 0

abbrev pub z_on : ℕ → ℕ → List ℕ
z_on n q = z_with n q 0

-- X^p Z^s on the error's qudit
unfoldable pub operator : ℕ → ℕ → WeylError → List ℕ
operator d n e = product d n (power d n e.p (x_on n e.qudit)) (power d n e.s (z_on n e.qudit))

-- A row means ω^r times the product over qudits of X^a Z^b, X on the left; here over the first k qudits.
unfoldable pub spelled : ℕ → ℕ → List ℕ → ℕ → List ℕ
spelled d n v zero = scalar n (phase_of n v)
spelled d n v (suc k) = product d n (spelled d n v k) (product d n (power d n (x_of v k) (x_on n k)) (power d n (z_of n v k) (z_on n k)))
