-- What the look at a qudit says of the stabilizers.
-- Assumes nothing.
use Rattle.std.proofs.Common.{Option, Some, None}
use mathlib.Core.Path.{◌≡◌, refl, ap}
use mathlib.Core.List.{List}
use Prim.Native.Nat.{ℕ, ◌<◌}
use native.Mathlib.Omega.{arith}
use borrow.Author.Tests.{eqb-true, eqb-false}
use Rattle.modular.specs.Modular.{neg}
use Rattle.row.specs.Row.{phase_of}
use Rattle.search.proofs.Search.{found_fails, all-good}
use Rattle.measurement.specs.declared.Look.TheVariants.{Free, Certain}
use Rattle.measurement.specs.Look.{stabilizer_power, commutes, pivot_of, weighted, look_by, look}

-- Stabilizer k is the lowest with an X power on q.
pub record Pivot (n : ℕ) (t : List ℕ) (q k : ℕ) : Type 0 where
  pub number : k < n
  pub power : ¬ (stabilizer_power n t q k ≡ 0)
  pub lowest : (j : ℕ) → j < k → stabilizer_power n t q j ≡ 0

-- No stabilizer has one: all commute with Z on q.
abbrev pub Commuting : (n : ℕ) → List ℕ → ℕ → Type 0
Commuting n t q = (i : ℕ) → i < n → stabilizer_power n t q i ≡ 0

pub data Looks (d n : ℕ) (t : List ℕ) (q : ℕ) : Type 0 where
  free : (k : ℕ) → Pivot n t q k → look d n t q ≡ Free k → Looks d n t q
  certain : Commuting n t q → look d n t q ≡ Certain (neg d (phase_of n (weighted d n t q))) → Looks d n t q

pub commuting_of : (n : ℕ) (t : List ℕ) (q : ℕ) → pivot_of n t q ≡ None → Commuting n t q
unfolding pivot_of
commuting_of n t q e i l = eqb-true _ 0 (all-good (commutes n t q) n e i l)

pub looks : (d n : ℕ) (t : List ℕ) (q : ℕ) → Looks d n t q
unfolding look pivot_of
looks d n t q = go (pivot_of n t q) refl
  where
    go : (p : Option ℕ) → pivot_of n t q ≡ p → Looks d n t q
    go (Some k) e =
        let (number, fails, lower) = found_fails (commutes n t q) n k e in
        free k (record { number = number; power = eqb-false _ 0 fails; lowest = λ j l. eqb-true _ 0 (lower j l) }) (ap (look_by d n t q) e)
    go None e = certain (commuting_of n t q e) (ap (look_by d n t q) e)

pub look-free : (d n : ℕ) (t : List ℕ) (q k : ℕ) → look d n t q ≡ Free k → Pivot n t q k
look-free d n t q k e = go (looks d n t q)
  where
    go : Looks d n t q → Pivot n t q k
    go (free j p f) = let same : k ≡ j = cc in rw same p
    go (certain h f) = let z : ◌≡◌ {A = ℕ} 0 1 = cc in absurd (omega arith)
