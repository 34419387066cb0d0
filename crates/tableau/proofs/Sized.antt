-- How large a tableau is at most.
-- Assumes nothing.
use mathlib.Core.Path.{◌≡◌}
use mathlib.Core.Bool.{true, and-eq-true_iff}
use Prim.Native.Nat.{ℕ, ◌+◌, ◌*◌, ◌≤◌}
use native.Mathlib.Nat.{mul-le-mul}
use native.Mathlib.Omega.{arith}
use lib.Dec.{leb}
use borrow.Author.Tests.{leb-true}
use Rattle.tableau.specs.Tableau.{sized}

pub sized-most : (n : ℕ) → sized n ≡ true → n ≤ 64
sized-most n h = leb-true n 64 ((and-eq-true_iff (leb 1 n) (leb n 64)).0 h).1

pub sized-bytes : (n : ℕ) → n ≤ 64 → 2 * n * (2 * n + 1) ≤ 128 * 129
sized-bytes n h =
    let a : 2 * n ≤ 128 = omega arith in
    let b : 2 * n + 1 ≤ 129 = omega arith in
    mul-le-mul a b
