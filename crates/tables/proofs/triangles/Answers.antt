-- x·x − x does not pass below 0.
use Rattle.std.proofs.Common.{◌≡◌, ℕ, ◌-◌, ◌*◌, ◌/◌, ◌%◌, sym, ap, ◌∙◌, arith}
use native.Mathlib.Nat.{mul-sub, mul-one}
use Rattle.std.proofs.lemmas.Grind.{common_steps}
use Rattle.modular.specs.Modular.{tri}
use Rattle.tables.proofs.triangles.Goals as goal

triangle_made : (x : ℕ) → (x * x - x) / 2 ≡ tri x
triangle_made x = ap (λ (z : ℕ). z / 2) (sym (mul-sub x x 1 ∙ ap (λ (z : ℕ). x * x - z) (mul-one x)))

pub loop-k-preserved : goal.loop-k-preserved
loop-k-preserved c =
    let e : c.reduce.result ≡ tri c.loop-k.k % c.args.m.d = c.reduce.ensures ∙ ap (λ (z : ℕ). z % c.args.m.d) (triangle_made c.loop-k.k) in
    grind (arith, common_steps, e)
