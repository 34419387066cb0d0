-- What an accepted book says of its numbers, and what the tests say of its buffers.
use Rattle.std.proofs.Common.{sym}
use Rattle.book.proofs.Handed.{handed}
use Rattle.direct_run.proofs.Books.{short-book, room, invalid-book, tested-book}
use Rattle.direct_run.proofs.tested.Goals as goal

pub buffers_fit-requires : goal.buffers_fit-requires
buffers_fit-requires c = (handed c.args.book.now c.read.ensures.answer c.read.ensures.measured c.in_ok-numbers.was).qudits

pub returns-then-not-buffers_fit-clause-answer : goal.returns-then-not-buffers_fit-clause-answer
returns-then-not-buffers_fit-clause-answer c =
    let a = c.args in
    let g = handed a.book.now c.read.ensures.answer c.read.ensures.measured c.in_ok-numbers.was in
    short-book a.book.now g a.t.now a.results.now c.buffers_fit.ensures c.if-not-buffers_fit.true

pub is_valid_for-requires : goal.is_valid_for-requires
is_valid_for-requires c =
    let a = c.args in
    let g = handed a.book.now c.read.ensures.answer c.read.ensures.measured c.in_ok-numbers.was in
    (g.dimension, g.qudits-sized, room a.book.now g a.t.now a.results.now c.buffers_fit.ensures c.if-not-buffers_fit.false)

pub returns-then-not-is_valid_for-clause-answer : goal.returns-then-not-is_valid_for-clause-answer
returns-then-not-is_valid_for-clause-answer c =
    let a = c.args in
    let g = handed a.book.now c.read.ensures.answer c.read.ensures.measured c.in_ok-numbers.was in
    invalid-book a.book.now g a.t.now a.results.now c.buffers_fit.ensures c.if-not-buffers_fit.false c.is_valid_for.ensures c.if-not-is_valid_for.true

pub returns-clause-answer : goal.returns-clause-answer
returns-clause-answer c =
    let a = c.args in
    let g = handed a.book.now c.read.ensures.answer c.read.ensures.measured c.in_ok-numbers.was in
    tested-book a.book.now g a.t.now a.results.now c.buffers_fit.ensures c.if-not-buffers_fit.false c.is_valid_for.ensures c.if-not-is_valid_for.false (sym c.in_ok-numbers.ensures.answer)
