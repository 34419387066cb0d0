-- A run goes step by step: a step more, and a run that halts and goes on.
-- Assumes nothing.
use mathlib.Core.Path.{◌≡◌}
use Prim.Native.Nat.{ℕ, zero, suc, ◌+◌}
use native.Mathlib.Nat.{zero-add}
use native.Mathlib.Numerals.{add-one}
use native.Mathlib.Omega.{arith}
use Rattle.runs.specs.Run.{steps_from}

module _ {A : Type 0} (step : ℕ → A → A) (from : ℕ) (a : A) where
  -- A run that halts after k steps and goes on is the one that doesn't halt.
  pub steps_halt : (k i : ℕ) → steps_from step from a (k + i) ≡ steps_from step (from + k) (steps_from step from a k) i
  unfolding steps_from
  steps_halt k zero = let q : k + 0 ≡ k = omega arith in rw q
  steps_halt k (suc i) =
      let q : k + suc i ≡ suc (k + i) = omega arith in
      let p : from + (k + i) ≡ from + k + i = omega arith in
      rw (q, steps_halt k i, p)

-- a step more of a run from operation 0
pub run_more : {A : Type 0} (step : ℕ → A → A) (a : A) (k : ℕ) → steps_from step 0 a (k + 1) ≡ step k (steps_from step 0 a k)
unfolding steps_from
run_more step a k = rw (add-one k, zero-add k)
