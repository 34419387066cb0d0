-- Bytes moved in a list.
-- Assumes nothing.
use mathlib.Core.Path.{◌≡◌, refl, sym, ap, ◌∙◌}
use mathlib.Core.List.{List}
use Prim.Native.Nat.{ℕ, ◌+◌, ◌-◌, ◌<◌, ◌≤◌}
use native.Mathlib.Decide.{ℕ_discrete, dec_lt}
use native.Mathlib.Omega.{arith}
use lib.ListN.{length, get_or, set, length-set}
use lib.Seq.{ext_get_or, get_or-set_same, get_or-set_other}
use Rattle.tableau.specs.Tableau.{part, put}
use Rattle.tableau.proofs.Parts.{part_length, part_at, put-length, put-left, put_in, put_right}

-- j bytes are moved, and every other byte is as it was
pub record Moving (from to j : ℕ) (t u : List ℕ) : Type 0 where
  pub len : length u ≡ length t
  pub done : (b : ℕ) → b < j → get_or u (to + b) 0 ≡ get_or t (from + b) 0
  pub left : (b : ℕ) → b < to → get_or u b 0 ≡ get_or t b 0
  pub right : (b : ℕ) → to + j ≤ b → get_or u b 0 ≡ get_or t b 0

pub moving_none : {from to : ℕ} {t : List ℕ} → Moving from to 0 t t
moving_none = record { len = refl; done = λ b h. absurd (omega arith); left = λ b h. refl; right = λ b h. refl }

pub moving_more : {from to : ℕ} {t u : List ℕ} (j x : ℕ) → from + j < to → to + j < length t → x ≡ get_or u (from + j) 0
    → Moving from to j t u → Moving from to (j + 1) t (set u (to + j) x)
moving_more {from} {to} {t} {u} j x before room e a =
    record {
      len = length-set u (to + j) x ∙ a.len;
      done = λ b h. by b h (ℕ_discrete b j);
      left = λ b h. get_or-set_other u (to + j) b x 0 (λ z. omega arith) ∙ a.left b h;
      right = λ b h. get_or-set_other u (to + j) b x 0 (λ z. omega arith) ∙ a.right b (omega arith);
    }
  where
    by : (b : ℕ) → b < j + 1 → Dec (b ≡ j) → get_or (set u (to + j) x) (to + b) 0 ≡ get_or t (from + b) 0
    by b h (yes q) = rw q (get_or-set_same u (to + j) x 0 (omega (arith, a.len)) ∙ e ∙ a.left (from + j) before)
    by b h (no q) = get_or-set_other u (to + j) (to + b) x 0 (λ z. omega arith) ∙ a.done b (omega arith)

pub moving_all : (from to w : ℕ) (t u : List ℕ) → from + w ≤ length t → to + w ≤ length t → Moving from to w t u
    → u ≡ put to w (part from w t) t
moving_all from to w t u inside room a =
    ext_get_or 0 u (put to w (part from w t) t) (a.len ∙ sym (put-length to w (part from w t) t room size)) (λ b h. by b (dec_lt b to) (dec_lt b (to + w)))
  where
    size : length (part from w t) ≡ w
    size = part_length from w t inside

    by : (b : ℕ) → Dec (b < to) → Dec (b < to + w) → get_or u b 0 ≡ get_or (put to w (part from w t) t) b 0
    by b (yes h) g = a.left b h ∙ sym (put-left to w (part from w t) t room size b h)
    by b (no h) (no g) = let k : to + w ≤ b = omega arith in a.right b k ∙ sym (put_right to w (part from w t) t room size b k)
    by b (no h) (yes g) =
        let q : b ≡ to + (b - to) = omega arith in
        let k : b - to < w = omega arith in
        ap (λ (x : ℕ). get_or u x 0) q
        ∙ a.done (b - to) k
        ∙ sym (part_at from w t (b - to) k)
        ∙ sym (put_in to w (part from w t) t room size (b - to) k)
        ∙ ap (λ (x : ℕ). get_or (put to w (part from w t) t) x 0) (sym q)
