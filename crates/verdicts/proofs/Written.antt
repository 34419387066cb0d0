-- A byte stored at the first place of a shot.
-- Assumes nothing.
use mathlib.Core.Path.{◌≡◌, refl, sym, ap, ◌∙◌}
use mathlib.Core.Logic.{◌≢◌}
use mathlib.Core.Bool.{Bool, true, false, cond}
use mathlib.Core.List.{List}
use Prim.Native.Nat.{ℕ, ◌+◌, ◌*◌, ◌<◌, ◌≤◌}
use native.Mathlib.Decide.{ℕ_discrete, dec_lt}
use native.Mathlib.Omega.{arith}
use Rattle.std.specs.Int.{from_bool}
use lib.ListN.{length, get_or, set, length-set}
use lib.Seq.{get_or-set_same, get_or-set_other}
use Rattle.search.specs.Search.{all}
use Rattle.runs.specs.Frame.{verdict_of}
use Rattle.tableau.proofs.Parts.{row_in, part_at}
use Rattle.tile.specs.Tile.{shot_at}
use Rattle.verdicts.specs.Verdicts.{VerdictsWritten}

pub verdict-small : (d n : ℕ) (F t : List ℕ) → verdict_of d n F t ≤ 1
unfolding verdict_of
verdict-small d n F t = by (all _ n)
  where
    by : (b : Bool) → cond b 0 1 ≤ 1
    by true = omega arith
    by false = omega arith

-- a test as a number
pub byte_of : (b : Bool) → (from_bool b ≡ cond b 1 0) × (from_bool b ≤ 1)
byte_of true = (refl, omega arith)
byte_of false = (refl, omega arith)

pub verdicts_none : {w used : ℕ} {f : ℕ → ℕ} {out : List ℕ} → VerdictsWritten w used 0 f out out
verdicts_none = record { len = refl; first = λ i h. absurd (omega arith); rest = λ i b h g k. refl }

-- shots begin apart
apart : (w i k b : ℕ) → i ≢ k → b < w → i * w + b ≢ k * w
apart w i k b e l z = by (dec_lt i k)
  where
    by : Dec (i < k) → ⊥
    by (yes h) = absurd (omega (arith, row_in i k w h))
    by (no h) = let g : k < i = omega arith in absurd (omega (arith, row_in k i w g))

pub verdicts_more : {w used : ℕ} {f : ℕ → ℕ} {out out' : List ℕ} (k x : ℕ) → 0 < w → k < used → used * w ≤ length out → x ≡ f k
    → VerdictsWritten w used k f out out' → VerdictsWritten w used (k + 1) f out (set out' (k * w) x)
verdicts_more {w} {used} {f} {out} {out'} k x pos low room e a =
    record {
      len = length-set out' (k * w) x ∙ a.len;
      first = λ i h. first i h (ℕ_discrete i k);
      rest = λ i b h g m.
          part_at (i * w) w (set out' (k * w) x) b m
          ∙ get_or-set_other out' (k * w) (i * w + b) x 0 (λ z. stays i b g m z (ℕ_discrete i k))
          ∙ sym (part_at (i * w) w out' b m)
          ∙ a.rest i b h g m;
    }
  where
    stays : (i b : ℕ) → 0 < b → b < w → i * w + b ≡ k * w → Dec (i ≡ k) → ⊥
    stays i b g m z (yes q) = let r : i * w ≡ k * w = ap (λ (y : ℕ). y * w) q in absurd (omega arith)
    stays i b g m z (no q) = apart w i k b q m z

    zeroth : (i : ℕ) (t : List ℕ) → get_or (shot_at w t i) 0 0 ≡ get_or t (i * w) 0
    zeroth i t = let q : i * w + 0 ≡ i * w = omega arith in part_at (i * w) w t 0 pos ∙ ap (λ (y : ℕ). get_or t y 0) q

    first : (i : ℕ) → i < k + 1 → Dec (i ≡ k) → get_or (shot_at w (set out' (k * w) x) i) 0 0 ≡ f i
    first i h (yes q) =
        let in-out : k * w < length out' = omega (arith, row_in k used w low, a.len) in
        rw q (zeroth k (set out' (k * w) x) ∙ get_or-set_same out' (k * w) x 0 in-out ∙ e)
    first i h (no q) =
        let other : i * w ≢ k * w = λ z. apart w i k 0 q pos (z' i z) in
        zeroth i (set out' (k * w) x) ∙ get_or-set_other out' (k * w) (i * w) x 0 other ∙ sym (zeroth i out') ∙ a.first i (omega arith)
      where
        z' : (i : ℕ) → i * w ≡ k * w → i * w + 0 ≡ k * w
        z' i z = omega arith
