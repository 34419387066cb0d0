-- x times the square of s to the power j stays u to the power k.
use mathlib.Core.Path.{◌≡◌, sym, ap, ◌∙◌}
use Prim.Native.Nat.{ℕ, ◌*◌, ◌/◌, ◌%◌, ◌<◌}
use native.Mathlib.Nat.{mul-one, one-mul, mul_comm, mod-eq_of_lt}
use native.Mathlib.Omega.{arith}
use Rattle.modular.specs.Dimension.{power_of}
use Rattle.modular.proofs.Residue.{rest-less, exchange}
use Rattle.modular.proofs.Powers.{power-less, power_even, power-odd}
use Rattle.inverse.proofs.power.Goals.{then-k-eq1, else-k-eq1, then-j-eq1, else-j-eq1}
use Rattle.inverse.proofs.power.Goals as goal

pub loop-j-init : goal.loop-j-init
loop-j-init c =
    let start = c in
    let d = start.args.m.d in
    let u = start.args.u in
    let k = start.args.k in
    let one : 1 < d = omega arith in
    elim c.if-k-eq1.branch [
      | then-k-eq1 w ↦ rw w.x-is (start.requires.below, start.requires.below, power-odd d u k w.if-k-eq1.true)
      | else-k-eq1 w ↦ rw w.x-is (one, start.requires.below, ap (λ (p : ℕ). p % d) (mul-one _) ∙ mod-eq_of_lt (power-less d _ _ one) ∙ power_even d u k w.if-k-eq1.false)
    ]

pub mul-x-requires-clause-right : goal.mul-x-requires-clause-right
mul-x-requires-clause-right c = rest-less _ (omega arith) c.mul-s.ensures

-- where j is odd, one factor s goes from the power to x
taken : (d s x j : ℕ) → j % 2 ≡ 1 → power_of d (s * s % d) (j / 2) * (x * s % d) % d ≡ power_of d s j * x % d
taken d s x j h =
    exchange d _ x s
    ∙ ap (λ (p : ℕ). x * p % d) (power-odd d s j h)
    ∙ ap (λ (p : ℕ). p % d) (mul_comm x _)

pub loop-j-preserved : goal.loop-j-preserved
loop-j-preserved c =
    let start = c in
    let d = start.args.m.d in
    let l = c.loop-j in
    let s = c.mul-s.result in
    let before : power_of d s l.j * l.x % d ≡ power_of d start.args.u start.args.k = rw c.mul-s.ensures l.invariant.2 in
    elim c.if-j-eq1.branch [
      | then-j-eq1 w ↦ rw w.x-is (
        rest-less _ (omega arith) w.mul-x.ensures,
        rest-less _ (omega arith) c.mul-s.ensures,
        rw w.mul-x.ensures (taken d s l.x l.j w.if-j-eq1.true) ∙ before,
      )
      | else-j-eq1 w ↦ rw w.x-is (
        l.invariant.0,
        rest-less _ (omega arith) c.mul-s.ensures,
        ap (λ (p : ℕ). p * l.x % d) (power_even d s l.j w.if-j-eq1.false) ∙ before,
      )
    ]

-- with no exponent left, x is the power
whole : (d s x j : ℕ) → x < d → j ≡ 0 → power_of d s j * x % d ≡ x
unfolding power_of
whole d s x j l z =
    ap (λ (i : ℕ). power_of d s i * x % d) z
    ∙ ap (λ (y : ℕ). y % d) (one-mul x)
    ∙ mod-eq_of_lt l

pub returns : goal.returns
returns c =
    let l = c.loop-j in
    sym (whole c.args.m.d _ l.x l.j l.invariant.0 (omega arith)) ∙ l.invariant.2
