-- The number that a count of operations reaches: the smaller of the two that the definition names. The worked runs are named so that they
-- are checked first.
-- Assumes nothing.
use mathlib.Core.Path.{◌≡◌, refl, sym, ap, ◌∙◌}
use mathlib.Core.Bool.{Bool, true, false, cond}
use mathlib.Core.List.{List, [], ◌∷◌}
use Prim.Native.Nat.{ℕ, ◌+◌, ◌≤◌, ◌<◌}
use native.Mathlib.Omega.{arith}
use lib.Dec.{ltb}
use borrow.Author.Tests.{lt-ltb, le-ltb, ltb-true, ltb-false}
use Rattle.halts.specs.Halt.{finished, next_of, Action, go_on, look_at, reaches}

module _ (operations from count : ℕ) where
  pub next-halted : from + count ≤ operations → next_of operations from count ≡ from + count
  next-halted l = ap (λ (b : Bool). cond b (finished operations) (from + count)) (le-ltb operations (from + count) l)

  pub next-finished : operations < from + count → next_of operations from count ≡ finished operations
  next-finished l = ap (λ (b : Bool). cond b (finished operations) (from + count)) (lt-ltb operations (from + count) l)

  -- not past a finished run's, not before `from`, not after the count
  pub record Next : Type 0 where
    pub last : next_of operations from count ≤ operations + 1
    pub on : from ≤ operations + 1 → from ≤ next_of operations from count
    pub most : next_of operations from count ≤ from + count

  pub next-is : Next
  next-is = by (ltb operations (from + count)) refl
    where
      by : (b : Bool) → ltb operations (from + count) ≡ b → Next
      by true e =
          let l = ltb-true operations (from + count) e in
          let q = next-finished l in
          record { last = omega arith; on = λ h. omega arith; most = omega arith }
      by false e =
          let l = ltb-false operations (from + count) e in
          let q = next-halted l in
          record { last = omega arith; on = λ h. omega arith; most = omega arith }

module _ (operations : ℕ) where
  -- one count after the other
  pub next-next : (from one two : ℕ) → next_of operations (next_of operations from one) two ≡ next_of operations from (one + two)
  next-next from one two = by (ltb operations (from + one)) refl
    where
      by : (b : Bool) → ltb operations (from + one) ≡ b → next_of operations (next_of operations from one) two ≡ next_of operations from (one + two)
      by true e =
          let l = ltb-true operations (from + one) e in
          rw (next-finished operations from one l)
          (next-finished operations (operations + 1) two (omega arith) ∙ sym (next-finished operations from (one + two) (omega arith)))
      by false e =
          let l = ltb-false operations (from + one) e in
          let q : from + one + two ≡ from + (one + two) = omega arith in
          rw (next-halted operations from one l) (ap (λ (z : ℕ). cond (ltb operations z) (finished operations) z) q)

  -- from the start a number is reached by as many operations, and a finished run's by one more than there are
  pub next_start : (r : ℕ) → r ≤ operations + 1 → next_of operations 0 r ≡ r
  next_start r l = by (ltb operations (0 + r)) refl
    where
      by : (b : Bool) → ltb operations (0 + r) ≡ b → next_of operations 0 r ≡ r
      by true e = let h = ltb-true operations (0 + r) e in omega (arith, next-finished operations 0 r h)
      by false e = let h = ltb-false operations (0 + r) e in omega (arith, next-halted operations 0 r h)

  -- no action passes a finished run's number
  pub reaches-most : (actions : List Action) (r : ℕ) → r ≤ operations + 1 → reaches operations r actions ≤ operations + 1
  unfolding reaches
  reaches-most [] r l = l
  reaches-most (go_on count ∷ actions) r l = reaches-most actions (next_of operations r count) (next-is operations r count).last
  reaches-most (look_at qudit ∷ actions) r l = reaches-most actions r l
