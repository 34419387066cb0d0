-- What each test leaves is what the next step is handed.
use Rattle.std.proofs.Common.{ap}
use Rattle.book.proofs.Handed.{handed, bodies_of}
use Rattle.frame_run.specs.FrameBook.{FrameLeft, buffers_of}
use Rattle.frame_run.proofs.Books.{short-book, rooms, invalid-book, rows, run_book}
use Rattle.frame_run.proofs.run_or_refuse.Goals as goal

pub buffers_fit-requires : goal.buffers_fit-requires
buffers_fit-requires c =
    let a = c.args in
    (handed a.book.now c.read.ensures.answer c.read.ensures.measured c.in_ok-numbers.was).qudits

pub returns-then-not-buffers_fit : goal.returns-then-not-buffers_fit
returns-then-not-buffers_fit c =
    let a = c.args in
    let g = handed a.book.now c.read.ensures.answer c.read.ensures.measured c.in_ok-numbers.was in
    record {
      done = tt;
      left = short-book a.book.now g (buffers_of a.t.now a.results.now a.shifts.now a.frame.now) c.buffers_fit.ensures c.if-not-buffers_fit.true;
    }

pub is_valid_for-requires : goal.is_valid_for-requires
is_valid_for-requires c =
    let a = c.args in
    let g = handed a.book.now c.read.ensures.answer c.read.ensures.measured c.in_ok-numbers.was in
    let r =
    rooms a.book.now g
    (buffers_of a.t.now a.results.now a.shifts.now a.frame.now)
    c.buffers_fit.ensures c.if-not-buffers_fit.false in
    (g.dimension, g.qudits-sized, r.0)

pub returns-then-not-is_valid_for : goal.returns-then-not-is_valid_for
returns-then-not-is_valid_for c =
    let a = c.args in
    let g = handed a.book.now c.read.ensures.answer c.read.ensures.measured c.in_ok-numbers.was in
    record {
      done = tt;
      left = invalid-book a.book.now g (buffers_of a.t.now a.results.now a.shifts.now a.frame.now)
          c.buffers_fit.ensures c.if-not-buffers_fit.false c.is_valid_for.ensures c.if-not-is_valid_for.true;
    }

pub operations-ops-requires : goal.operations-ops-requires
operations-ops-requires c =
    let a = c.args in
    let g = handed a.book.now c.read.ensures.answer c.read.ensures.measured c.in_ok-numbers.was in
    (g.bodies.room, g.bodies.first)

pub errors-errors-requires : goal.errors-errors-requires
errors-errors-requires c =
    let a = c.args in
    let g = handed a.book.now c.read.ensures.answer c.read.ensures.measured c.in_ok-numbers.was in
    (g.bodies.room, g.bodies.second)

pub choices-choices-requires : goal.choices-choices-requires
choices-choices-requires c =
    let a = c.args in
    let g = handed a.book.now c.read.ensures.answer c.read.ensures.measured c.in_ok-numbers.was in
    (g.bodies.room, g.bodies.third)

pub run-requires : goal.run-requires
run-requires c =
    let a = c.args in
    let book = a.book.now in
    let g = handed book c.read.ensures.answer c.read.ensures.measured c.in_ok-numbers.was in
    let lent = buffers_of a.t.now a.results.now a.shifts.now a.frame.now in
    let r = rooms book g lent c.buffers_fit.ensures c.if-not-buffers_fit.false in
    let b1 = c.operations-ops.ensures in
    let b2 = c.errors-errors.ensures in
    let b3 = c.choices-choices.ensures in (
      bodies_of book g b1 b2 b3,
      rw (b1, g.counted-part) r.1,
      r.0,
      rows book g lent c.buffers_fit.ensures c.if-not-buffers_fit.false c.is_valid_for.ensures c.if-not-is_valid_for.false,
    )

pub returns : goal.returns
returns c =
    let a = c.args in
    let g = handed a.book.now c.read.ensures.answer c.read.ensures.measured c.in_ok-numbers.was in
    record {
      done = ap (λ (left : FrameLeft). left.number) c.run.ensures;
      left = run_book a.book.now g (buffers_of a.t.now a.results.now a.shifts.now a.frame.now)
          c.buffers_fit.ensures c.if-not-buffers_fit.false c.is_valid_for.ensures c.if-not-is_valid_for.false
          (rw (c.operations-ops.ensures, c.errors-errors.ensures, c.choices-choices.ensures) at c.run.ensures);
    }
