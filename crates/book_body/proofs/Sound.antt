-- What three accepted bodies have passed.
-- Assumes nothing.
use Rattle.std.proofs.Common.{Option, Some, None}
use mathlib.Core.Path.{◌≡◌, refl}
use mathlib.Core.Logic.{◌≢◌}
use mathlib.Core.Bool.{true}
use mathlib.Core.List.{List}
use Prim.Native.Nat.{ℕ, ◌/◌, ◌<◌}
use native.Mathlib.Omega.{arith}
use lib.Dec.{eqb}
use lib.ListN.{length}
use borrow.Author.Tests.{eqb-true}
use Rattle.book_body.specs.Body.{good_operation, bad_operation, choice_takers, bad_error, good_choice, bad_choice, ReaderAnswer, refused, accepted, refuse_at, read_bodies}
use Rattle.search.proofs.Search.{met, some-place, all-good}

-- an answer that is no refusal
abbrev pub NoRefusal : ReaderAnswer → Type 0
NoRefusal t = (number place : ℕ) → refused number place ≢ t

pub no_refusal : (d n operations errors choices : ℕ) → NoRefusal (accepted d n operations errors choices)
no_refusal d n operations errors choices number place e = let z : ◌≡◌ {A = ℕ} 0 1 = cc in omega arith

pub nowhere : {t : ReaderAnswer} (number : ℕ) (p : Option ℕ) (rest : ReaderAnswer) → NoRefusal t → refuse_at number p rest ≡ t → (p ≡ None) × (rest ≡ t)
nowhere number (Some place) rest good e = absurd (good number place e)
nowhere number None rest good e = (refl, e)

pub record Sound (d n : ℕ) (os es cs : List ℕ) (t : ReaderAnswer) : Type 0 where
  pub operations : bad_operation d n os ≡ None
  pub errors : bad_error d n (length os / 4) es ≡ None
  pub choices : bad_choice d (choice_takers os (length os / 4)) cs ≡ None
  pub numbers : accepted d n (length os / 4) (length es / 5) (length cs) ≡ t

pub all_sound : {t : ReaderAnswer} (d n : ℕ) (os es cs : List ℕ) → NoRefusal t → read_bodies d n os es cs ≡ t → Sound d n os es cs t
unfolding read_bodies
all_sound d n os es cs good e =
    let p5 = nowhere 5 (bad_operation d n os) _ good e in
    let p6 = nowhere 6 (bad_error d n (length os / 4) es) _ good p5.1 in
    let p7 = nowhere 7 (bad_choice d (choice_takers os (length os / 4)) cs) _ good p6.1 in
    record { operations = p5.0; errors = p6.0; choices = p7.0; numbers = p7.1 }

module _ {d n : ℕ} {os es cs : List ℕ} {t : ReaderAnswer} (sound : Sound d n os es cs t) where
  -- each entry is one of the nine operations, and what it names comes earlier
  pub each_operation : (k : ℕ) → k < length os / 4 → good_operation d n os k ≡ true
  unfolding bad_operation
  each_operation = all-good (good_operation d n os) (length os / 4) sound.operations

  -- there is a choice for each measurement and each reset, below d
  pub one_each : length cs ≡ choice_takers os (length os / 4)
  unfolding bad_choice
  one_each = eqb-true _ _ (met (eqb (length cs) (choice_takers os (length os / 4))) some-place sound.choices).0

  pub each_choice : (k : ℕ) → k < length cs → good_choice d cs k ≡ true
  unfolding bad_choice
  each_choice =
      all-good (good_choice d cs) (length cs)
      (met (eqb (length cs) (choice_takers os (length os / 4))) some-place sound.choices).1
