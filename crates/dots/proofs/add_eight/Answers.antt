use Rattle.std.proofs.Common.{ℕ, ◌+◌, ◌*◌, get_or, refl, ap, ◌∙◌, rules, arith, length-take, length-drop}
use Rattle.row.proofs.Fill.{filled_none, filled_next, filled_more, filled-all, filled-get}
use Rattle.dots.proofs.Combined.{combined_most, combined-eight, four-at, small-part}
use Rattle.dots.proofs.add_eight.Goals as goal

pub loop-j-init : goal.loop-j-init
loop-j-init c = filled_none _ _

pub products-requires-in-loop-j-clause-numbers : goal.products-requires-in-loop-j-clause-numbers
products-requires-in-loop-j-clause-numbers c = search (rules, small-part)

pub overflow_add-sums-in-loop-j : goal.overflow_add-sums-in-loop-j
overflow_add-sums-in-loop-j c =
    let a = c.args in
    let j = c.loop-j.j in
    let before = filled_next _ _ _ _ c.loop-j.invariant (omega arith) ∙ c.requires.before.sum j (omega arith) in
    omega (arith, before, combined_most a.left.now a.columns.now j (8 * a.q) c.requires.factors c.requires.numbers)

pub loop-j-preserved : goal.loop-j-preserved
loop-j-preserved c =
    let a = c.args in
    let j = c.loop-j.j in
    let before = filled_next _ _ _ _ c.loop-j.invariant (omega arith) ∙ c.requires.before.sum j (omega arith) in
    let left = λ (k : ℕ). get_or a.left.now k 0 in
    filled_more _ _ _ _ c.loop-j.invariant (omega arith) _
    (rw (before, c.products.ensures.value, c.products-in-loop-j.ensures.value)
    (combined-eight a.left.now _ _ a.columns.now j (8 * a.q) _ _ (omega arith) (simp (length-take, length-drop) (omega arith)) (four-at _ _ refl refl refl refl)
    (four-at a.left.now (8 * a.q + 4) refl (ap left (omega arith)) (ap left (omega arith)) (ap left (omega arith)))))

pub returns : goal.returns
returns c = record { sum = λ j l. rw (filled-all _ _ _ _ c.args.count c.loop-j.invariant (omega arith) (omega arith)) (filled-get _ _ _ j l) }
