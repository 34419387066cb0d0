-- One operation more.
use Rattle.std.proofs.Common.{◌+◌, ◌*◌, ◌||◌, refl, ap, ◌∙◌, eqb, get_or, add-one, arith, le_antisymm}
use Rattle.book_body.specs.Body.{choice_takers}
use Rattle.book_body.proofs.Count.{at_most_one, as_number}
use Rattle.book_body.proofs.choice_takers.Goals as goal

pub loop-k-init : goal.loop-k-init
unfolding choice_takers
loop-k-init c = (omega arith, refl)

pub loop-k-preserved : goal.loop-k-preserved
unfolding choice_takers
loop-k-preserved c =
    let ops = c.args.ops.now in
    let k = c.loop-k.k in
    let code = get_or ops (4 * k) 0 in
    let is = eqb code 6 || eqb code 7 in
    (omega (arith, at_most_one is), rw (add-one k, c.loop-k.invariant.1, c.from-sum.ensures) (ap (λ z. choice_takers ops k + z) (as_number is)))

pub returns : goal.returns
returns c = c.loop-k.invariant.1 ∙ ap (choice_takers _) (le_antisymm (omega arith) c.loop-k-test.false)
