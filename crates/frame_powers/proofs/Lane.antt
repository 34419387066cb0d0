-- A byte stored in one lane leaves the others, and is a power stored in the frame of that lane.
-- Assumes nothing.
use Rattle.std.proofs.Common.{subst, ◌≡◌, ◌≢◌, ℕ, ◌+◌, ◌*◌, ◌/◌, ◌%◌, ◌<◌, ◌≤◌, List, length, get_or, set, refl, sym, ap, ◌∙◌, arith, length-set}
use Rattle.std.proofs.Math.Seq.{get_or-set_same, get_or-set_other, ext_get_or}
use Rattle.std.proofs.Math.Nat.{mul-le-mul_left, mul-div_cancel_left, mul-add-mod_self_left, mod-eq_of_lt}
use native.Mathlib.Decide.{ℕ_discrete}
use Rattle.row.specs.Row.{Powers}
use Rattle.row.proofs.Fill.{tab-length, tab-get}
use Rattle.frame_powers.specs.Lane.{frame_in, FrameIn, ChangedIn}

module _ (w k : ℕ) (F : List ℕ) (l : ℕ) where
  pub frame_in-length : length (frame_in w k F l) ≡ k
  unfolding frame_in
  frame_in-length = tab-length (λ s. get_or F (w * s + l) 0) k

  -- power s
  pub frame_in-at : (s : ℕ) → s < k → get_or (frame_in w k F l) s 0 ≡ get_or F (w * s + l) 0
  unfolding frame_in
  frame_in-at s h = tab-get (λ s. get_or F (w * s + l) 0) k s 0 h

pub place_below : (w l n s : ℕ) (F : List ℕ) → l < w → w * (2 * n) ≤ length F → s < 2 * n → w * s + l < length F
place_below w l n s F inside room h = let e : w * (s + 1) ≤ w * (2 * n) = mul-le-mul_left w (omega arith) in omega arith

pub power_below : {w d n l : ℕ} {F : List ℕ} → FrameIn w d n l F → (s : ℕ) → s < 2 * n → get_or F (w * s + l) 0 < d
power_below {w} {d} {n} {l} {F} p s h = omega (arith, p.powers.below s h, frame_in-at w (2 * n) F l s h)

-- a place tells the lane and the power
same_lane : (w l k s i : ℕ) → l < w → k < w → w * i + k ≡ w * s + l → k ≡ l
same_lane w l k s i hl hk e = sym (mul-add-mod_self_left w i k ∙ mod-eq_of_lt hk) ∙ ap (λ x. x % w) e ∙ mul-add-mod_self_left w s l ∙ mod-eq_of_lt hl

same_power : (w l s i : ℕ) → l < w → w * i + l ≡ w * s + l → i ≡ s
same_power w l s i hl e =
    let low : 0 < w = omega arith in
    let same : w * i ≡ w * s = omega arith in
    sym (mul-div_cancel_left i low) ∙ ap (λ x. x / w) same ∙ mul-div_cancel_left s low

-- stores in lane l alone, by which its first k powers have become g k
pub record Stored (w n l : ℕ) (F : List ℕ) (g : ℕ → List ℕ) (G : List ℕ) : Type 0 where
  pub inside : l < w
  pub room : w * (2 * n) ≤ length G
  pub len : length G ≡ length F
  pub here : (k : ℕ) → 2 * n ≤ k → frame_in w k G l ≡ g k
  pub others : (s k : ℕ) → k < w → k ≢ l → get_or G (w * s + k) 0 ≡ get_or F (w * s + k) 0

pub stored-none : {w n l : ℕ} {F : List ℕ} → l < w → w * (2 * n) ≤ length F → Stored w n l F (λ k. frame_in w k F l) F
stored-none inside room = record { inside = inside; room = room; len = refl; here = λ k h. refl; others = λ s k h e. refl }

frame_in-set : (w l k s x : ℕ) (G : List ℕ) → l < w → s < k → w * s + l < length G → frame_in w k (set G (w * s + l) x) l ≡ set (frame_in w k G l) s x
frame_in-set w l k s x G inside low room =
    ext_get_or 0 _ _ (frame_in-length w k (set G (w * s + l) x) l ∙ sym (length-set (frame_in w k G l) s x ∙ frame_in-length w k G l))
    (λ i p. by i (omega (arith, frame_in-length w k (set G (w * s + l) x) l)) (ℕ_discrete i s))
  where
    by : (i : ℕ) → i < k → Dec (i ≡ s) → get_or (frame_in w k (set G (w * s + l) x) l) i 0 ≡ get_or (set (frame_in w k G l) s x) i 0
    by i p (yes e) =
        frame_in-at w k (set G (w * s + l) x) l i p
        ∙ rw e (get_or-set_same G (w * s + l) x 0 room ∙ sym (get_or-set_same (frame_in w k G l) s x 0 (omega (arith, frame_in-length w k G l))))
    by i p (no e) =
        frame_in-at w k (set G (w * s + l) x) l i p
        ∙ get_or-set_other G (w * s + l) (w * i + l) x 0 (λ z. e (same_power w l s i inside z))
        ∙ sym (get_or-set_other (frame_in w k G l) s i x 0 e ∙ frame_in-at w k G l i p)

pub stored_more : {w n l : ℕ} {F G : List ℕ} {g : ℕ → List ℕ} (s x : ℕ) → s < 2 * n → Stored w n l F g G
    → Stored w n l F (λ k. set (g k) s x) (set G (w * s + l) x)
stored_more {w} {n} {l} {F} {G} {g} s x h a =
    record {
      inside = a.inside;
      room = simp length-set a.room;
      len = length-set G (w * s + l) x ∙ a.len;
      here = λ k b. frame_in-set w l k s x G a.inside (omega arith) (place_below w l n s G a.inside a.room h) ∙ ap (λ z. set z s x) (a.here k b);
      others = λ i k b e. get_or-set_other G (w * s + l) (w * i + k) x 0 (λ z. e (same_lane w l k s i a.inside b z)) ∙ a.others i k b e;
    }

pub stored_is : {f : List ℕ → List ℕ} {w n l : ℕ} {F G : List ℕ} {g : ℕ → List ℕ} → ((k : ℕ) → 2 * n ≤ k → g k ≡ f (frame_in w k F l)) → Stored w n l F g G
    → ChangedIn w n l f F G
stored_is e a = record { len = a.len; here = λ k h. a.here k h ∙ e k h; others = a.others }

-- A frame alone is the only lane of one.
pub alone : (n : ℕ) (F : List ℕ) → frame_in 1 (length F) F 0 ≡ F
alone n F =
    ext_get_or 0 _ _ (frame_in-length 1 (length F) F 0)
    (λ i h. frame_in-at 1 (length F) F 0 i (omega (arith, frame_in-length 1 (length F) F 0)) ∙ ap (λ j. get_or F j 0) (omega arith))

pub alone-frame : {d n : ℕ} {F : List ℕ} → Powers d n F → FrameIn 1 d n 0 F
alone-frame {d} {n} {F} p =
    record {
      room = omega (arith, p.room);
      powers = record {
        room = omega (arith, frame_in-length 1 (2 * n) F 0);
        below = λ s h. rw frame_in-at (subst (λ j. get_or F j 0 < d) (omega arith) (p.below s h));
      };
    }

pub alone-changed : {f : List ℕ → List ℕ} {n : ℕ} {F G : List ℕ} → 2 * n ≤ length F → ChangedIn 1 n 0 f F G → G ≡ f F
alone-changed {f} {n} {F} {G} room a =
    sym (alone n G) ∙ ap (λ k. frame_in 1 k G 0) a.len ∙ a.here (length F) room ∙ ap f (alone n F)
