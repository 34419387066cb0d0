-- Congruence of natural numbers modulo d, with its witnesses: x and y leave the same rest.
-- Assumes nothing.
use mathlib.Core.Path.{◌≡◌, refl, sym, ◌∙◌, ap}
use Prim.Native.Nat.{ℕ, ◌+◌, ◌*◌, ◌<◌, ◌%◌, ◌/◌}
use native.Mathlib.Omega.{arith}
use native.Mathlib.Nat.{div-add-mod', add-mul-mod_self_right, mod-eq_of_lt}

pub record Cong (d x y : ℕ) : Type 0 where
  pub p : ℕ
  pub q : ℕ
  pub eq : x + p * d ≡ y + q * d

pub cong_refl : (d x : ℕ) → Cong d x x
cong_refl d x = record { p = 0; q = 0; eq = refl }

pub cong_eq : (d : ℕ) {x y : ℕ} → x ≡ y → Cong d x y
cong_eq d e = record { p = 0; q = 0; eq = omega arith }

pub cong_sym : {d x y : ℕ} → Cong d x y → Cong d y x
cong_sym h = record { p = h.q; q = h.p; eq = sym h.eq }

pub cong_trans : {d x y z : ℕ} → Cong d x y → Cong d y z → Cong d x z
cong_trans h k = record { p = h.p + k.p; q = h.q + k.q; eq = omega arith }

pub cong_add : {d x y z w : ℕ} → Cong d x y → Cong d z w → Cong d (x + z) (y + w)
cong_add h k = record { p = h.p + k.p; q = h.q + k.q; eq = omega arith }

pub cong_mul-left : {d x y : ℕ} (c : ℕ) → Cong d x y → Cong d (c * x) (c * y)
cong_mul-left c h = record { p = c * h.p; q = c * h.q; eq = omega (arith, ap (λ (z : ℕ). c * z) h.eq) }

pub cong_mul-right : {d x y : ℕ} (c : ℕ) → Cong d x y → Cong d (x * c) (y * c)
cong_mul-right c h = record { p = c * h.p; q = c * h.q; eq = omega (arith, ap (λ (z : ℕ). c * z) h.eq) }

pub cong_mul : {d x y z w : ℕ} → Cong d x y → Cong d z w → Cong d (x * z) (y * w)
cong_mul {y = y} {z = z} h k = cong_trans (cong_mul-right z h) (cong_mul-left y k)

-- Congruent numbers leave the same rest, and numbers with the same rest are congruent.
pub cong_mod : (d x : ℕ) → Cong d x (x % d)
cong_mod d x = record { p = 0; q = x / d; eq = omega (arith, div-add-mod' x d) }

pub mod_cong : {d x y : ℕ} → Cong d x y → x % d ≡ y % d
mod_cong {d} {x} {y} h =
    sym (add-mul-mod_self_right x h.p d) ∙ ap (λ (z : ℕ). z % d) h.eq ∙ add-mul-mod_self_right y h.q d

pub cong_of_mod : (d x y : ℕ) → x % d ≡ y % d → Cong d x y
cong_of_mod d x y e = cong_trans (cong_mod d x) (cong_trans (cong_eq d e) (cong_sym (cong_mod d y)))

-- Numbers below d that are congruent are equal.
pub small_cong : {d x y : ℕ} → Cong d x y → x < d → y < d → x ≡ y
small_cong c l k = sym (mod-eq_of_lt l) ∙ mod_cong c ∙ mod-eq_of_lt k
