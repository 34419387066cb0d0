use native.Mathlib.Nat.{le_antisymm}
use Rattle.std.proofs.Common.{◌≡◌, ◌+◌, ◌<◌, ◌≤◌, ◌/◌, ◌∙◌, length, sym, arith}
use Rattle.operation.proofs.Operands.{error-facts}
use Rattle.circuit.specs.Circuit.{err_at}
use Rattle.runs.specs.Reached.{Reached}
use Rattle.book.specs.Decoded.{errors_of}
use Rattle.book.proofs.Lists.{error-count, error-at}
use Rattle.runs.proofs.Taken.{passing-more, passing-other, passing-last}
use Rattle.calendar.proofs.Applying.{applying_none, applying_more, applying_all, place_at, place_inside, place-past}
use Rattle.calendar.proofs.apply_in_lane.Goals as goal
use Rattle.calendar.proofs.apply_in_lane.Goals.{Then-place-k, After-loop-i}

pub loop-i-init : goal.loop-i-init
loop-i-init c = record { passing = c.requires.passing; applying = applying_none; lanes = c.requires.lanes }

-- the first entry of a later place
later : (c : Then-place-k) → Reached (errors_of c.args.errors.now) c.loop-i.i (c.args.k + 1)
later c =
    let es = c.args.errors.now in
    let i = c.loop-i.i in
    let in_list : i < length (errors_of es) = omega (arith, error-count es) in
    let place = place_at es i c.loop-i-test.true ∙ sym c.word-place.ensures.0 in
    passing-other c.loop-i.invariant.passing in_list (rw place c.if-place-k.true) c.requires.in_order.in_order

pub returns-then-place-k-clause-applied : goal.returns-then-place-k-clause-applied
returns-then-place-k-clause-applied c = applying_all (later c) c.loop-i.invariant.applying

pub returns-then-place-k-clause-reached : goal.returns-then-place-k-clause-reached
returns-then-place-k-clause-reached c = later c

pub returns-then-place-k-clause-next : goal.returns-then-place-k-clause-next
returns-then-place-k-clause-next c = rw c.word-place.ensures.0 (place_inside c.args.errors.now c.loop-i.i c.loop-i-test.true)

pub apply_error-requires-clause-lane : goal.apply_error-requires-clause-lane
apply_error-requires-clause-lane c =
    let p = c.loop-i.invariant.lanes in
    record { dimension = p.dimension; qudits = p.qudits; inside = c.requires.lane_in; room = p.room; powers = p.powers _ c.requires.lane_in }

pub apply_error-requires-clause-operands : goal.apply_error-requires-clause-operands
apply_error-requires-clause-operands c =
    let es = c.args.errors.now in
    let i = c.loop-i.i in
    let in_list : i < length (errors_of es) = omega (arith, error-count es) in
    let entry = error-at es i (omega arith) ∙ sym c.error_at-e.ensures in
    error-facts c.args.d c.args.n c.error_at-e.result (rw (← entry) (c.requires.in_order.each i in_list))

pub loop-i-preserved : goal.loop-i-preserved
loop-i-preserved c =
    let a = c.args in
    let es = a.errors.now in
    let i = c.loop-i.i in
    let in_list : i < length (errors_of es) = omega (arith, error-count es) in
    let entry = error-at es i (omega arith) ∙ sym c.error_at-e.ensures in
    let here : (err_at (errors_of es) i).place ≡ a.k = place_at es i (omega arith) ∙ sym c.word-place.ensures.0 ∙ c.if-place-k.false in
    record {
      passing = passing-more c.loop-i.invariant.passing in_list here;
      applying = applying_more here c.loop-i.invariant.applying (rw entry c.apply_error.ensures.changed);
      lanes = c.apply_error.ensures.lanes c.loop-i.invariant.lanes;
    }

-- the end of the list
past : (c : After-loop-i) → c.loop-i.i ≡ length c.args.errors.now / 5
past c =
    let first : c.args.j ≤ length c.args.errors.now / 5 = omega (arith, c.requires.passing.inside, error-count c.args.errors.now) in
    le_antisymm (c.loop-i.auto.i-end first) c.loop-i-test.false

end : (c : After-loop-i) → Reached (errors_of c.args.errors.now) (length c.args.errors.now / 5) (c.args.k + 1)
end c =
    let es = c.args.errors.now in
    rw (past c) at (passing-last c.loop-i.invariant.passing (omega (arith, error-count es)))

pub returns-clause-applied : goal.returns-clause-applied
returns-clause-applied c = applying_all (end c) (rw (past c) at c.loop-i.invariant.applying)

pub returns-clause-reached : goal.returns-clause-reached
returns-clause-reached c = end c

pub returns-clause-next : goal.returns-clause-next
returns-clause-next c = let es = c.args.errors.now in place-past es _ (omega (arith, error-count es))
