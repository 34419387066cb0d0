-- What is seen fits: the pivot of a free measurement is one of the n stabilizers, and a certain outcome is below d. A free
-- measurement by a seen pivot leaves a valid tableau.
-- Assumes nothing.
use Rattle.std.proofs.Common.{Option, Some, None}
use mathlib.Core.Path.{◌≡◌, refl, subst}
use mathlib.Core.List.{List}
use Prim.Native.Nat.{ℕ, ◌<◌}
use native.Mathlib.Omega.{arith}
use Rattle.modular.specs.Dimension.{Dimension}
use Rattle.modular.proofs.Residue.{neg-less}
use Rattle.row.specs.Row.{phase_of}
use Rattle.operation.specs.Error.{error_rows, minus_x}
use Rattle.operation.proofs.Error.{minus-allowed}
use Rattle.search.proofs.Search.{found_fails}
use Rattle.validity.specs.Validity.{Valid}
use Rattle.measurement.specs.declared.Look.{Look}
use Rattle.measurement.specs.declared.Look.TheVariants.{Free, Certain}
use Rattle.measurement.specs.Look.{commutes, pivot_of, weighted, look_by, look}
use Rattle.measurement.specs.Collapse.{collapse}
use Rattle.validity_laws.proofs.Keeping.{error-keeps-valid}
use Rattle.measurement_laws.proofs.Free.{collapse-keeps-valid}

abbrev pub LookFits : ℕ → ℕ → Look → Type 0
LookFits d n (Free k) = k < n
LookFits d n (Certain outcome) = outcome < d

pub look-fits : (d n : ℕ) (t : List ℕ) (q : ℕ) {seen : Look} → 0 < d → look d n t q ≡ seen → LookFits d n seen
unfolding look pivot_of
look-fits d n t q h e = subst (LookFits d n) e (by (pivot_of n t q) refl)
  where
    by : (p : Option ℕ) → pivot_of n t q ≡ p → LookFits d n (look_by d n t q p)
    by (Some k) e = (found_fails (commutes n t q) n k e).0
    by None e = neg-less d (phase_of n (weighted d n t q)) h

pub collapse-valid : {d n q k m : ℕ} {t' : List ℕ} → Dimension d → (t : List ℕ) → Valid d n t → q < n → m < d
    → look d n t q ≡ Free k
    → t' ≡ collapse d n q k m t
    → Valid d n t'
collapse-valid {d} {n} {q} {k} {m} {t'} dim t ok lq lm seen e = rw e (collapse-keeps-valid d n dim t ok q k m lq lm seen)

-- and so does X to the minus any outcome
pub minus-valid : {d n q : ℕ} (r : ℕ) {t' : List ℕ} → Dimension d → (t : List ℕ) → Valid d n t → q < n → t' ≡ error_rows d n (minus_x d q r) t → Valid d n t'
minus-valid {d} {n} {q} r dim t ok lq e =
    rw e (error-keeps-valid d n dim (minus_x d q r) (minus-allowed d n q r (omega (arith, dim.low)) lq) t ok)
