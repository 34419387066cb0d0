-- `(0..m).all(|k| ..)` answers what `all` says of the closure's test.
use mathlib.Core.Path.{◌≡◌, sym, ◌∙◌}
use mathlib.Core.Bool.{Bool, true, false}
use Prim.Native.Nat.{ℕ, ◌<◌}
use native.Mathlib.Omega.{arith}
use denote.Param.Members.{Mut}
use Rattle.std.proofs.Common.{List, length, get_or, ap}
use Rattle.std.specs.Bool.{MatchBool}
use Rattle.std.specs.Fn.{Called}
use Rattle.std.specs.Iterator.{ChecksAll}
use Rattle.std.specs.List.{range_with_len, AllWithin, HoldsAt}
use Rattle.std.specs.declared.ops.Range.{Range}
use Rattle.std.proofs.iter.Yields.{nat_range_steps}
use Rattle.std.proofs.lemmas.Iterator.{cases_from_all, YieldsList-from_range}
use Rattle.std.proofs.lemmas.List.FromFn.{length-range_with_len, get_or-range_with_len}
use Rattle.search.specs.Search.{all}
use Rattle.search.proofs.Search.{all_from, all_fails}

module _ (test : ℕ → Bool) (m : ℕ) where
  Yes : ℕ → Type 0
  Yes k = test k ≡ true

  No : ℕ → Type 0
  No k = test k ≡ false

  numbers : List ℕ
  numbers = range_with_len 0 m

  number : (k : ℕ) → k < m → get_or numbers k 0 ≡ k
  unfolding numbers
  number k l = get_or-range_with_len 0 m k 0 l ∙ omega arith

  within : (r : Bool) → MatchBool r (AllWithin Yes numbers 0 (length numbers)) ((k : ℕ) × (k < length numbers) × HoldsAt No numbers k) → r ≡ all test m
  unfolding Yes No numbers
  within true h = sym (all_from test m (λ k l. ap test (sym (number k l)) ∙ h k 0 (omega arith) (omega (arith, length-range_with_len 0 m))))
  within false (k, l, h) =
      let b : k < m = omega (arith, length-range_with_len 0 m) in
      sym (all_fails test m k b (ap test (sym (number k b)) ∙ h 0))

  pub all_of_range :
      {F : Type 0} {g : Mut F (ℕ × Unit {0}) Bool} {s u : Range ℕ} {f : F} {r : Bool} →
      s ≡ record { start = 0; end = m } →
      ChecksAll nat_range_steps g s f r u →
      ((x : ℕ) (q : F) → Called g f (x, tt) true q → (q ≡ f) × (test x ≡ true)) →
      ((x : ℕ) (q : F) → Called g f (x, tt) false q → test x ≡ false) →
      r ≡ all test m
  unfolding Yes No numbers
  all_of_range {F} {g} {s} {u} {f} {r} e ran good bad =
      within r (cases_from_all u f r Yes No ran (YieldsList-from_range 0 m m e (omega arith)) good bad)
