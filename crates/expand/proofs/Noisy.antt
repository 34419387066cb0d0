-- How many of the first shots have errors.
-- Assumes nothing.
use mathlib.Core.Path.{◌≡◌}
use mathlib.Core.Logic.{◌≢◌}
use mathlib.Core.List.{List}
use Prim.Native.Nat.{ℕ, zero, suc, ◌+◌, ◌-◌, ◌<◌, ◌≤◌}
use native.Mathlib.Decide.{ℕ_discrete}
use native.Mathlib.Omega.{arith}
use borrow.Author.Tests.{eq-eqb, ne_eqb}
use Rattle.tray.specs.Tray.{length_at}
use Rattle.expand.specs.Expand.{noisy_among}

module _ (tray : List ℕ) (first : ℕ) where
  -- one shot more
  pub noisy_none : (k : ℕ) → length_at tray (first + k) ≡ 0 → noisy_among tray first (suc k) ≡ noisy_among tray first k
  unfolding noisy_among
  noisy_none k e = rw (eq-eqb (length_at tray (first + k)) 0 e) (omega arith)

  pub noisy_one : (k : ℕ) → length_at tray (first + k) ≢ 0 → noisy_among tray first (suc k) ≡ noisy_among tray first k + 1
  unfolding noisy_among
  noisy_one k e = rw (ne_eqb (length_at tray (first + k)) 0 e)

  noisy_step : (k : ℕ) → (noisy_among tray first k ≤ noisy_among tray first (suc k)) × (noisy_among tray first (suc k) ≤ suc (noisy_among tray first k))
  noisy_step k = by (ℕ_discrete (length_at tray (first + k)) 0)
    where
      by : Dec (length_at tray (first + k) ≡ 0) → (noisy_among tray first k ≤ noisy_among tray first (suc k)) × (noisy_among tray first (suc k) ≤ suc (noisy_among tray first k))
      by (yes e) = omega (arith, noisy_none k e)
      by (no e) = omega (arith, noisy_one k e)

  -- at most as many as there are
  pub noisy_most : (k : ℕ) → noisy_among tray first k ≤ k
  unfolding noisy_among
  noisy_most zero = omega arith
  noisy_most (suc k) = omega (arith, noisy_most k, (noisy_step k).1)

  -- k shots more
  noisy_later : (j k : ℕ)
      → (noisy_among tray first j ≤ noisy_among tray first (k + j)) × (noisy_among tray first (k + j) ≤ noisy_among tray first j + k)
  noisy_later j zero = let q : 0 + j ≡ j = omega arith in rw q (omega arith)
  noisy_later j (suc k) = let q : suc k + j ≡ suc (k + j) = omega arith in rw q (omega (arith, noisy_later j k, noisy_step (k + j)))

  noisy_between : (j k : ℕ) → j ≤ k
      → (noisy_among tray first j ≤ noisy_among tray first k) × (noisy_among tray first k ≤ noisy_among tray first j + (k - j))
  noisy_between j k h = let q : k - j + j ≡ k = omega arith in rw q at (noisy_later j (k - j))

  noisy_rises : (j k : ℕ) → j ≤ k → noisy_among tray first j ≤ noisy_among tray first k
  noisy_rises j k h = (noisy_between j k h).0

  -- a shot with errors is one of those
  pub noisy_less : (j k : ℕ) → j < k → length_at tray (first + j) ≢ 0 → noisy_among tray first j < noisy_among tray first k
  noisy_less j k h e = omega (arith, noisy_one j e, noisy_rises (suc j) k h)

  -- if as many as there are, each of them
  pub noisy_all : (j k : ℕ) → j ≤ k → k ≤ noisy_among tray first k → noisy_among tray first j ≡ j
  noisy_all j k h e = omega (arith, (noisy_between j k h).1, noisy_most j)

  pub noisy_each : (j k : ℕ) → j < k → k ≤ noisy_among tray first k → length_at tray (first + j) ≢ 0
  noisy_each j k h e z = absurd (omega (arith, noisy_none j z, noisy_all j k (omega arith) e, noisy_all (suc j) k h e))
