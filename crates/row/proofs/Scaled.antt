-- Σ b·a' with multiples of X powers is the multiple of that with the powers, but for multiples of d.
-- Assumes nothing.
use mathlib.Core.Path.{◌≡◌, refl, ap}
use mathlib.Core.List.{List}
use Prim.Native.Nat.{ℕ, zero, suc, ◌+◌, ◌*◌, ◌/◌, ◌%◌, ◌≤◌}
use native.Mathlib.Nat.{div-add-mod, le_refl}
use native.Mathlib.Omega.{arith}
use Rattle.modular.proofs.Residue.{same_rest}
use Rattle.row.specs.Row.{x_of, z_of, dot}
use Rattle.row.specs.Multiple.{Multiple}

module _ (d n h : ℕ) (v xs w : List ℕ) (m : Multiple d n h xs w) where
  -- what the rests leave out
  spill : ℕ → ℕ
  spill zero = 0
  spill (suc k) = spill k + z_of n v k * (h * x_of xs k / d)

  dot-multiple : (k : ℕ) → k ≤ n → dot n v w k + d * spill k ≡ h * dot n v xs k
  unfolding dot spill
  dot-multiple zero l =
      let e : spill 0 ≡ 0 = refl in
      omega (arith, ap (λ (x : ℕ). d * x) e)
  dot-multiple (suc k) l =
      let z = z_of n v k in
      let x = h * x_of xs k in
      let e : z * x_of w k ≡ z * (x % d) = ap (λ (y : ℕ). z * y) (m.each k (omega arith)) in
      let s : z * (d * (x / d) + x % d) ≡ z * x = ap (λ (y : ℕ). z * y) (div-add-mod x d) in
      omega (arith, dot-multiple k (omega arith), e, s)

  -- the phase of the product
  pub phase_multiple : (r : ℕ) → (r + h * dot n v xs n) % d ≡ (r + dot n v w n) % d
  phase_multiple r = same_rest d (r + h * dot n v xs n) (r + dot n v w n) 0 (spill n) (omega (arith, dot-multiple n (le_refl n)))
