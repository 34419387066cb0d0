-- `direct_run::go_on` meets its contract.
-- Assumes nothing.
use native.Mathlib.Omega.{arith}
use Rattle.halts.proofs.Numbers.{next-is}
use Rattle.direct_run.proofs.Books.{passed, many, few, past, gone}
use Rattle.direct_run.proofs.go_on.Goals as goal

pub overflow_add-operations : goal.overflow_add-operations
overflow_add-operations c =
    let v = c in
    let a = v.args in
    let p = passed a.book.now a.t.now a.results.now v.tested.ensures.answer v.tested.ensures.measured c.in-Ok.is in
    omega (arith, few a.book.now a.t.now a.results.now p.0)

pub returns-then-operations-from : goal.returns-then-operations-from
returns-then-operations-from c =
    let v = c in
    let a = v.args in
    let p = passed a.book.now a.t.now a.results.now v.tested.ensures.answer v.tested.ensures.measured c.in-Ok.is in
    rw c.refused-then-operations-from.ensures (past a.book.now a.t.now a.results.now p.0 a.from a.count c.if-operations-from.true)

pub next_of-next-requires : goal.next_of-next-requires
next_of-next-requires c =
    let v = c in
    let a = v.args in
    let p = passed a.book.now a.t.now a.results.now v.tested.ensures.answer v.tested.ensures.measured c.in-Ok.is in
    record { not_past = c.if-operations-from.false; few = omega (arith, few a.book.now a.t.now a.results.now p.0) }

pub reach-requires : goal.reach-requires
reach-requires c =
    let x = c in
    let v = x in
    let a = v.args in
    let p = passed a.book.now a.t.now a.results.now v.tested.ensures.answer v.tested.ensures.measured x.in-Ok.is in
    let many = many a.book.now a.t.now a.results.now p.0 in
    let next = next-is _ a.from a.count in
    (p.0, p.1, omega (arith, x.next_of-next.ensures, next.on x.if-operations-from.false), omega (arith, many, x.next_of-next.ensures, next.last))

pub returns : goal.returns
returns c =
    let r = c in
    let x = r in
    let v = x in
    let a = v.args in
    let p = passed a.book.now a.t.now a.results.now v.tested.ensures.answer v.tested.ensures.measured x.in-Ok.is in
    gone a.book.now a.t.now a.results.now p.0 a.from a.count x.if-operations-from.false x.next_of-next.ensures r.reach.ensures
