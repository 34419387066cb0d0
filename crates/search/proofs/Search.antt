-- What a loop that tests one number after the other knows, of the first failure and of all tests.
-- Assumes nothing.
use Rattle.std.proofs.Common.{Option, Some, None}
use mathlib.Core.Bool.{Bool, true, false, ◌&&◌, false≢true, and-true, cond}
use lib.ListN.{length}
use mathlib.Core.List.{List, [], ◌∷◌, ◌++◌}
use mathlib.Core.Path.{◌≡◌, refl, sym, ap, ◌∙◌}
use mathlib.Core.Logic.{◌≢◌, ⊎_elim}
use Prim.Native.Nat.{ℕ, zero, suc, ◌+◌, ◌<◌}
use native.Mathlib.Nat.{eq-or-lt_of_le}
use native.Mathlib.Numerals.{add-one}
use native.Mathlib.Omega.{arith}
use Rattle.std.specs.Option.{option_or, MatchOption}
use Rattle.std.specs.List.{list_all, count_by, filter, range_with_len}
use Rattle.std.proofs.lemmas.List.Folds.{list_all-append}
use Rattle.std.proofs.lemmas.List.Sums.{sum_by-append, length-filter}
use Rattle.search.specs.Search.{unless, all, first_not}

pub both : (a b : Bool) → a && b ≡ true → (a ≡ true) × (b ≡ true)
both true b e = (refl, e)
both false b e = absurd (false≢true e)

-- what holds of the refusal where the test fails, and of the rest where it is met, holds of the answer
pub unless_cases : {A : Type 0} {bad rest : A} (P : A → Type 0) (t : Bool) → (t ≡ false → P bad) → (t ≡ true → P rest) → P (unless t bad rest)
unless_cases P true f g = g refl
unless_cases P false f g = f refl

-- where a test's refusal is not the answer, the test was met
pub met : {A : Type 0} {bad rest good : A} (t : Bool) → bad ≢ good → unless t bad rest ≡ good → (t ≡ true) × (rest ≡ good)
met true n e = (refl, e)
met false n e = absurd (n e)

pub some-place : {k : ℕ} → Some k ≢ None
some-place e = let z : ◌≡◌ {A = ℕ} 0 1 = cc in omega arith

-- one number more
pub range_more : (a m j : ℕ) → a + m ≡ j → range_with_len a (suc m) ≡ range_with_len a m ++ j ∷ []
range_more a zero j e = ap (λ (b : ℕ). b ∷ []) (omega arith)
range_more a (suc m) j e = ap (λ (xs : List ℕ). a ∷ xs) (range_more (a + 1) m j (omega arith))

below-zero : {k : ℕ} → k < 0 → ⊥
below-zero h = omega arith

module _ (test : ℕ → Bool) where
  -- one more that passes
  pub none_yet : (k : ℕ) → first_not test k ≡ None → test k ≡ true → first_not test (k + 1) ≡ None
  unfolding first_not
  none_yet k e g = rw (add-one k, e, g)

  -- the first that fails
  pub found : (m k : ℕ) → k < m → first_not test k ≡ None → test k ≡ false → Some k ≡ first_not test m
  unfolding first_not
  found zero k h e g = absurd (below-zero h)
  found (suc m) k h e g =
      ⊎_elim (λ (q : k ≡ m). rw (← q, e, g)) (λ (q : k < m). rw (← found m k q e g)) (eq-or-lt_of_le {n = k} {m = m} (omega arith))

  both-none : (p q : Option ℕ) → option_or p q ≡ None → (p ≡ None) × (q ≡ None)
  both-none (Some k) q e = absurd (some-place e)
  both-none None q e = (refl, e)

  -- where none fails, all pass
  pub all-good : (m : ℕ) → first_not test m ≡ None → (j : ℕ) → j < m → test j ≡ true
  unfolding first_not
  all-good zero e j h = absurd (below-zero h)
  all-good (suc m) e j h =
      let b = both-none (first_not test m) (unless (test m) (Some m) None) e in
      ⊎_elim (λ (q : j ≡ m). rw q (met (test m) some-place b.1).0) (λ (q : j < m). all-good m b.0 j q) (eq-or-lt_of_le {n = j} {m = m} (omega arith))

  pub none_fails : (m : ℕ) → ((j : ℕ) → j < m → test j ≡ true) → first_not test m ≡ None
  unfolding first_not
  none_fails zero h = refl
  none_fails (suc m) h = rw (none_fails m (λ j l. h j (omega arith)), h m (omega arith))

  -- where one is found, it fails, and all before it pass
  pub found_fails : (m k : ℕ) → first_not test m ≡ Some k → (k < m) × (test k ≡ false) × ((j : ℕ) → j < k → test j ≡ true)
  unfolding first_not
  found_fails zero k e = absurd (some-place (sym e))
  found_fails (suc m) k e = go (first_not test m) refl e (found_fails m k)
    where
      last : (b : Bool) → test m ≡ b → unless b (Some m) None ≡ Some k → (m ≡ k) × (test m ≡ false)
      last true g h = (cc, cc)
      last false g h = (cc, g)

      go : (p : Option ℕ) → first_not test m ≡ p → option_or p (unless (test m) (Some m) None) ≡ Some k
          → (first_not test m ≡ Some k → (k < m) × (test k ≡ false) × ((j : ℕ) → j < k → test j ≡ true))
          → (k < suc m) × (test k ≡ false) × ((j : ℕ) → j < k → test j ≡ true)
      go (Some i) p z ih =
          let r = ih (p ∙ z) in
          (omega (arith, r.0), r.1, r.2)
      go None p z ih =
          let r = last (test m) refl z in
          let q : k ≡ m = cc in
          (omega (arith, r.0), ap test q ∙ r.1, λ j l. all-good m p j (omega (arith, r.0)))

  -- one more that passes, one that fails, and what all say
  pub all_more : (k : ℕ) → all test k ≡ true → test k ≡ true → all test (k + 1) ≡ true
  unfolding all
  all_more k e g = rw (add-one k, e, g)

  pub all_fails : (m k : ℕ) → k < m → test k ≡ false → all test m ≡ false
  unfolding all
  all_fails zero k h g = absurd (below-zero h)
  all_fails (suc m) k h g =
      ⊎_elim (λ (q : k ≡ m). last (all test m) (ap test q)) (λ (q : k < m). rw (all_fails m k q g)) (eq-or-lt_of_le {n = k} {m = m} (omega arith))
    where
      last : (b : Bool) → test k ≡ test m → b && test m ≡ false
      last true e = cc
      last false e = refl

  pub all-at : (m : ℕ) → all test m ≡ true → (k : ℕ) → k < m → test k ≡ true
  unfolding all
  all-at zero e k h = absurd (below-zero h)
  all-at (suc m) e k h =
      let b = both (all test m) (test m) e in
      ⊎_elim (λ (q : k ≡ m). rw q b.1) (λ (q : k < m). all-at m b.0 k q) (eq-or-lt_of_le {n = k} {m = m} (omega arith))

  pub all_from : (m : ℕ) → ((k : ℕ) → k < m → test k ≡ true) → all test m ≡ true
  unfolding all
  all_from zero h = refl
  all_from (suc m) h = rw (all_from m (λ k l. h k (omega arith)), h m (omega arith))

  -- what `position` says of the first that fails
  pub first-is : (m : ℕ) (r : Option ℕ)
      → MatchOption r ((j : ℕ) → j < m → test j ≡ true) (λ k. (k < m) × (test k ≡ false) × ((j : ℕ) → j < k → test j ≡ true))
      → r ≡ first_not test m
  first-is m None h = sym (none_fails m h)
  first-is m (Some k) h = found m k h.0 (none_fails k h.2) h.1

  -- a list's words for all: the test at each number from 0 on
  pub all_of_range : (m : ℕ) → list_all test (range_with_len 0 m) ≡ all test m
  unfolding all
  all_of_range zero = refl
  all_of_range (suc m) =
      ap (list_all test) (range_more 0 m m (omega arith)) ∙ list_all-append test (range_with_len 0 m) (m ∷ []) ∙ ap (λ (b : Bool). b && (test m && true)) (all_of_range m)
      ∙ ap (λ (b : Bool). all test m && b) (and-true (test m))

  -- and for how many pass
  module _ (count : ℕ → ℕ) (none : count 0 ≡ 0) (more : (m : ℕ) → count (suc m) ≡ count m + cond (test m) 1 0) where
    counts : (m : ℕ) → count_by test (range_with_len 0 m) ≡ count m
    counts zero = sym none
    counts (suc m) =
        ap (count_by test) (range_more 0 m m (omega arith)) ∙ sum_by-append (λ (k : ℕ). cond (test k) 1 0) (range_with_len 0 m) (m ∷ [])
        ∙ omega (arith, counts m, more m)

    pub count_of_range : (m : ℕ) → length (filter test (range_with_len 0 m)) ≡ count m
    count_of_range m = length-filter test (range_with_len 0 m) ∙ counts m

-- tests that agree find the same, and say the same of all
module _ (p q : ℕ → Bool) where
  pub first-same : (m : ℕ) → ((i : ℕ) → i < m → p i ≡ q i) → first_not p m ≡ first_not q m
  unfolding first_not
  first-same zero h = refl
  first-same (suc m) h = rw (first-same m (λ i l. h i (omega arith)), h m (omega arith))

  pub all_same : (m : ℕ) → ((i : ℕ) → i < m → p i ≡ q i) → all p m ≡ all q m
  unfolding all
  all_same zero h = refl
  all_same (suc m) h = rw (all_same m (λ i l. h i (omega arith)), h m (omega arith))
