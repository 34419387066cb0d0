-- The sum of a phase with two table entries is what the error makes of it.
-- Assumes nothing.
use mathlib.Core.Path.{◌≡◌, sym, ap, ◌∙◌}
use Prim.Native.Nat.{ℕ, ◌+◌, ◌-◌, ◌*◌, ◌%◌, ◌<◌, ◌≤◌}
use native.Mathlib.Nat.{add-mod-mod}
use native.Mathlib.Decide.{ℕ_discrete}
use native.Mathlib.Omega.{arith}
use Rattle.modular.specs.Modular.{neg}
use Rattle.modular.proofs.Residue.{neg-zero, neg-positive, add-neg-product}

pub gain : (d r x p y : ℕ) → 0 < d → p ≤ d → (r + x % d + (d - p) * y % d) % d ≡ (r + (x + neg d (p * y))) % d
gain d r x p y low h =
    add-mod-mod (r + x % d) ((d - p) * y) d
    ∙ add-neg-product d (r + x % d) p y low h
    ∙ ap (λ (z : ℕ). z % d) (order r (x % d) (neg d (p * y)))
    ∙ add-mod-mod (r + neg d (p * y)) x d
    ∙ ap (λ (z : ℕ). z % d) (back r x (neg d (p * y)))
  where
    order : (a b c : ℕ) → a + b + c ≡ a + c + b
    order a b c = omega arith

    back : (a b c : ℕ) → a + c + b ≡ a + (b + c)
    back a b c = omega arith

-- X to the minus k: its p is −k, and −p is k again
pub gain-minus : (d r x k y : ℕ) → 0 < d → k < d → (r + k * y % d) % d ≡ (r + (0 * x + neg d (neg d k * y))) % d
gain-minus d r x k y low h = add-mod-mod r (k * y) d ∙ by (ℕ_discrete k 0) ∙ ap (λ (z : ℕ). (r + z) % d) (alone (neg d (neg d k * y)))
  where
    alone : (z : ℕ) → z ≡ 0 * x + z
    alone z = omega arith

    by : Dec (k ≡ 0) → (r + k * y) % d ≡ (r + neg d (neg d k * y)) % d
    by (yes e) = let none : 0 * y ≡ 0 = omega arith in rw (e, neg-zero d low, none, neg-zero d low)
    by (no e) =
        let back : d - (d - k) ≡ k = omega arith in
        rw (neg-positive {d = d} {x = k} (omega (arith, e)) h)
        (ap (λ (z : ℕ). (r + z * y) % d) (sym back) ∙ add-neg-product d r (d - k) y low (omega arith))
