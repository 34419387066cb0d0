-- A phase's gain may be reduced in one factor before it is added.
-- Assumes nothing.
use mathlib.Core.Path.{◌≡◌, ap}
use Prim.Native.Nat.{ℕ, ◌+◌, ◌*◌, ◌/◌, ◌%◌}
use native.Mathlib.Nat.{div-add-mod}
use native.Mathlib.Omega.{arith}
use Rattle.modular.proofs.Residue.{same_rest}

-- k times y
pub add-multiple : (d r k y : ℕ) → (r + k * (y % d)) % d ≡ (r + k * y) % d
add-multiple d r k y =
    let e : k * (d * (y / d) + y % d) ≡ k * y = ap (λ (x : ℕ). k * x) (div-add-mod y d) in
    same_rest d (r + k * (y % d)) (r + k * y) (k * (y / d)) 0 (omega arith)

-- k times a·x, where k·a is there already
pub add-product : (d r k a x : ℕ) → (r + k * a % d * x) % d ≡ (r + k * (a * x)) % d
add-product d r k a x =
    let e : (d * (k * a / d) + k * a % d) * x ≡ k * a * x = ap (λ (y : ℕ). y * x) (div-add-mod (k * a) d) in
    same_rest d (r + k * a % d * x) (r + k * (a * x)) (k * a / d * x) 0 (omega arith)
