-- A product of powers of stabilizers is a row, and hangs on the exponents of those stabilizers alone; the pivot on their X powers.
-- Assumes nothing.
use mathlib.Core.Path.{◌≡◌, refl, ap}
use mathlib.Core.List.{List}
use Prim.Native.Nat.{ℕ, zero, suc, ◌+◌, ◌<◌}
use native.Mathlib.Omega.{arith}
use lib.Dec.{eqb}
use Rattle.row.specs.Row.{Row, power}
use Rattle.row.proofs.Fill.{row_below}
use Rattle.row.proofs.Laws.{product-row}
use Rattle.row_laws.specs.Scalar.{none, scalar}
use Rattle.search.proofs.Search.{first-same}
use Rattle.tableau.specs.Tableau.{row}
use Rattle.measurement.specs.Look.{stabilizer_power, commutes, pivot_of, combination}

module _ (d n : ℕ) (t : List ℕ) (h : ℕ → ℕ) where
  pub combination-row : 0 < d → (k : ℕ) → Row d n (combination d n t h k)
  unfolding combination scalar
  combination-row p zero = row_below n none 0 d (λ i l. p) p
  combination-row p (suc k) = product-row d n (combination d n t h k) (power d n (h k) (row n t (n + k))) p

-- It hangs on those stabilizers and their exponents alone.
pub combination-same :
    (d n : ℕ) (t u : List ℕ) (g h : ℕ → ℕ) (k : ℕ) → ((i : ℕ) → i < k → g i ≡ h i) → ((i : ℕ) → i < k → row n t (n + i) ≡ row n u (n + i)) →
    combination d n t g k ≡ combination d n u h k
unfolding combination
combination-same d n t u g h zero e r = refl
combination-same d n t u g h (suc k) e r =
    rw (combination-same d n t u g h k (λ i l. e i (omega arith)) (λ i l. r i (omega arith)), e k (omega arith), r k (omega arith))

-- The pivot depends on the stabilizers' X powers alone.
pub pivot-same : (n : ℕ) (t u : List ℕ) (q : ℕ) → ((i : ℕ) → i < n → stabilizer_power n t q i ≡ stabilizer_power n u q i) → pivot_of n t q ≡ pivot_of n u q
unfolding pivot_of
pivot-same n t u q h = first-same (commutes n t q) (commutes n u q) n (λ i l. ap (λ (x : ℕ). eqb x 0) (h i l))
