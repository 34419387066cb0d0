-- Laws of powers modulo d: they are below d, those of 0 are 0, and a power is found from that of the square.
-- Assumes nothing.
use Rattle.std.proofs.Common.{◌≡◌, ℕ, zero, suc, ◌+◌, ◌*◌, ◌/◌, ◌%◌, ◌<◌, ◌≢◌, refl, ap, ◌∙◌, mod-lt, mul_comm, mul-zero, arith}
use native.Mathlib.Nat.{zero-mod}
use Rattle.modular.specs.Dimension.{power_of}
use Rattle.modular.proofs.Residue.{exchange}

pub power-less : (d u k : ℕ) → 1 < d → power_of d u k < d
unfolding power_of
power-less d u zero h = h
power-less d u (suc k) h = mod-lt _ (omega arith)

pub power_zero : (d k : ℕ) → power_of d 0 (suc k) ≡ 0
unfolding power_of
power_zero d k = ap (λ (x : ℕ). x % d) (mul-zero _) ∙ zero-mod d

power_double : (d u h : ℕ) → power_of d (u * u % d) h ≡ power_of d u (h + h)
unfolding power_of
power_double d u zero = refl
power_double d u (suc h) =
    let twice : suc (suc (h + h)) ≡ suc h + suc h = omega arith in
    ap (λ (x : ℕ). x * (u * u % d) % d) (power_double d u h)
    ∙ exchange d _ u u
    ∙ ap (λ (x : ℕ). x % d) (mul_comm u _)
    ∙ ap (power_of d u) twice

-- a power with an even exponent is a power of the square; with an odd one, u is left as a factor
pub power_even : (d u k : ℕ) → k % 2 ≢ 1 → power_of d (u * u % d) (k / 2) ≡ power_of d u k
power_even d u k h =
    let twice : k / 2 + k / 2 ≡ k = omega arith in
    power_double d u (k / 2) ∙ ap (power_of d u) twice

pub power-odd : (d u k : ℕ) → k % 2 ≡ 1 → power_of d (u * u % d) (k / 2) * u % d ≡ power_of d u k
unfolding power_of
power-odd d u k h =
    let twice : suc (k / 2 + k / 2) ≡ k = omega arith in
    ap (λ (x : ℕ). x * u % d) (power_double d u (k / 2)) ∙ ap (power_of d u) twice
