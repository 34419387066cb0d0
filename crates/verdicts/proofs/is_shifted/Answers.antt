use native.Mathlib.Nat.{le_antisymm}
use borrow.Author.Tests.{eq-eqb, ne_eqb}
use Rattle.std.proofs.Common.{◌≡◌, ◌+◌, ◌∙◌, Bool, true, false, cond, refl, sym, ap, arith}
use Rattle.search.specs.Search.{all}
use Rattle.search.proofs.Search.{all_more, all_fails}
use Rattle.row.proofs.Laws.{powers_of}
use Rattle.tableau.proofs.Parts.{tableau-row}
use Rattle.runs.specs.Frame.{shift_at, no_shift, verdict_of}
use Rattle.verdicts.proofs.is_shifted.Goals as goal
use Rattle.verdicts.proofs.is_shifted.Goals.{After-pairing}

pub loop-i-init : goal.loop-i-init
unfolding all
loop-i-init c = refl

pub pairing-requires-clause-right : goal.pairing-requires-clause-right
pairing-requires-clause-right c =
    rw c.row.ensures.value (powers_of (tableau-row _ _ c.args.t.now c.requires.tableau _ (omega arith)))

-- the shift of stabilizer i
shift : (c : After-pairing) → let a = c.args in c.pairing.result ≡ shift_at a.m.d a.n a.frame.now a.t.now (a.n + c.loop-i.i)
shift c = rw c.row.ensures.value at c.pairing.ensures

pub returns-then-pairing-ne0 : goal.returns-then-pairing-ne0
unfolding verdict_of
returns-then-pairing-ne0 c =
    let a = c.args in
    let test = no_shift a.m.d a.n a.frame.now a.t.now in
    let fails : all test a.n ≡ false = all_fails test a.n c.loop-i.i c.loop-i-test.true (ne_eqb _ 0 (rw (shift (goal.at.returns-then-pairing-ne0 c).After-pairing) at c.if-pairing-ne0.true)) in
    sym (ap (λ (x : Bool). cond x 0 1) fails)

pub loop-i-preserved : goal.loop-i-preserved
loop-i-preserved c = all_more _ _ c.loop-i.invariant (eq-eqb _ _ (sym (shift (goal.at.loop-i-preserved c).After-pairing) ∙ c.if-pairing-ne0.false))

pub returns : goal.returns
unfolding verdict_of
returns c =
    let a = c.args in
    let test = no_shift a.m.d a.n a.frame.now a.t.now in
    let e : all test a.n ≡ true = ap (all test) (le_antisymm c.loop-i-test.false c.loop-i.auto.i-end) ∙ c.loop-i.invariant in
    sym (ap (λ (x : Bool). cond x 0 1) e)
