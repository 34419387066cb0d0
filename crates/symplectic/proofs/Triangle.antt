-- The triangle numbers 0 + 1 + .. + (h - 1), and that modulo an odd number they depend on the rest of h alone.
-- Assumes nothing.
use mathlib.Core.Path.{◌≡◌, refl, sym, ◌∙◌, ap}
use Prim.Native.Nat.{ℕ, zero, suc, ◌+◌, ◌*◌, ◌-◌, ◌/◌}
use native.Mathlib.Omega.{arith}
use Rattle.congruence.proofs.Congruence.{Cong, cong_refl, cong_eq, cong_sym, cong_trans, cong_add}

unfoldable pub tri : ℕ → ℕ
tri zero = 0
tri (suc h) = tri h + h

pub tri_double : (h : ℕ) → 2 * tri h + h ≡ h * h
unfolding tri
tri_double zero = refl
tri_double (suc h) = omega (arith, tri_double h)

pub tri-add : (h k : ℕ) → tri (h + k) ≡ tri h + tri k + h * k
tri-add h k = omega (arith, tri_double (h + k), tri_double h, tri_double k)

-- Modulo an odd number, tri depends on the rest alone.
tri-multiple : (f p : ℕ) → Cong (suc (f + f)) (tri (p * suc (f + f))) 0
tri-multiple f p =
    record {
      p = f * p * (p * suc (f + f));
      q = tri (p * suc (f + f)) + f * p;
      eq = omega (arith, ap (λ (z : ℕ). f * z) (tri_double (p * suc (f + f))));
    }

tri-plus : (f h p : ℕ) → Cong (suc (f + f)) (tri (h + p * suc (f + f))) (tri h)
tri-plus f h p =
    cong_trans (cong_eq (suc (f + f)) (tri-add h (p * suc (f + f))))
    (cong_trans
    (cong_add (cong_add (cong_refl (suc (f + f)) (tri h)) (tri-multiple f p)) multiple)
    (cong_eq (suc (f + f)) (omega arith)))
  where
    multiple : Cong (suc (f + f)) (h * (p * suc (f + f))) 0
    multiple = record { p = 0; q = h * p; eq = omega arith }

pub tri_cong : (f : ℕ) {h k : ℕ} → Cong (suc (f + f)) h k → Cong (suc (f + f)) (tri h) (tri k)
tri_cong f {h} {k} c =
    cong_trans (cong_sym (tri-plus f h c.p))
    (cong_trans (cong_eq (suc (f + f)) (ap tri c.eq)) (tri-plus f k c.q))

-- The same by a division.
pub tri-half : (h : ℕ) → tri h ≡ h * (h - 1) / 2
unfolding tri
tri-half zero = refl
tri-half (suc h) =
    let a : suc h - 1 ≡ h = omega arith in
    let b : suc h * (suc h - 1) ≡ 2 * tri (suc h) = ap (λ (z : ℕ). suc h * z) a ∙ omega (arith, tri_double (suc h)) in
    let c : 2 * tri (suc h) / 2 ≡ tri (suc h) = omega arith in
    sym (ap (λ (z : ℕ). z / 2) b ∙ c)
