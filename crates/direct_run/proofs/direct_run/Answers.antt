-- `direct_run::direct_run` meets its contract.
-- Assumes nothing.
use native.Mathlib.Omega.{arith}
use Rattle.direct_run.proofs.Books.{passed, many, few, ended}
use Rattle.direct_run.proofs.direct_run.Goals as goal

pub overflow_add-finished : goal.overflow_add-finished
overflow_add-finished c =
    let v = c in
    let a = v.args in
    let p = passed a.book.now a.t.now a.results.now v.tested.ensures.answer v.tested.ensures.measured c.in-Ok.is in
    omega (arith, few a.book.now a.t.now a.results.now p.0)

pub reach-requires : goal.reach-requires
reach-requires c =
    let v = c in
    let a = v.args in
    let p = passed a.book.now a.t.now a.results.now v.tested.ensures.answer v.tested.ensures.measured c.in-Ok.is in
    (p.0, p.1, omega arith, omega (arith, many a.book.now a.t.now a.results.now p.0))

pub returns : goal.returns
returns c =
    let r = c in
    let v = r in
    let a = v.args in
    let p = passed a.book.now a.t.now a.results.now v.tested.ensures.answer v.tested.ensures.measured r.in-Ok.is in
    ended a.book.now a.t.now a.results.now p.0 r.reach.ensures
