-- What each test leaves is what the next step is handed.
use Rattle.std.proofs.Common.{sym, ◌∙◌, arith}
use Rattle.tray.proofs.Table.{table_says, table-inside}
use Rattle.tray_run.proofs.Books.{failed, held, opened, bad-table, bad-tray, sizes, short-book, rooms, invalid-book, given, most, run_book}
use Rattle.tray_run.proofs.run_or_refuse.Goals as goal

pub returns-then-not-table_fits : goal.returns-then-not-table_fits
returns-then-not-table_fits c =
    let a = c.args in
    let b = opened a.book.now c.read.ensures.answer c.read.ensures.measured c.in_ok-numbers.was in
    bad-table b a.tray.now a.t.now a.out.now (failed c.table_fits.ensures c.if-not-table_fits.true)

pub bad_shot-requires : goal.bad_shot-requires
bad_shot-requires c = held c.table_fits.ensures c.if-not-table_fits.false

pub returns-in-Some : goal.returns-in-Some
returns-in-Some c =
    let a = c.args in
    let b = opened a.book.now c.read.ensures.answer c.read.ensures.measured c.in_ok-numbers.was in
    let table = held c.table_fits.ensures c.if-not-table_fits.false in
    bad-tray b a.tray.now a.t.now a.out.now table (sym c.bad_shot.ensures ∙ c.in-Some.is)

pub word-shots-requires : goal.word-shots-requires
word-shots-requires c =
    let a = c.args in
    let b = opened a.book.now c.read.ensures.answer c.read.ensures.measured c.in_ok-numbers.was in
    let table = held c.table_fits.ensures c.if-not-table_fits.false in
    omega (arith, table-inside a.tray.now (table_says a.tray.now table))

pub buffers_fit-requires : goal.buffers_fit-requires
buffers_fit-requires c =
    let a = c.args in
    let b = opened a.book.now c.read.ensures.answer c.read.ensures.measured c.in_ok-numbers.was in
    let table = held c.table_fits.ensures c.if-not-table_fits.false in
    let z = sizes b a.tray.now a.t.now a.out.now table in
    record { qudits = z.0; few_measurements = z.1; few_shots = omega (arith, z.2, c.word-shots.ensures.0) }

pub returns-then-not-buffers_fit : goal.returns-then-not-buffers_fit
returns-then-not-buffers_fit c =
    let a = c.args in
    let b = opened a.book.now c.read.ensures.answer c.read.ensures.measured c.in_ok-numbers.was in
    let table = held c.table_fits.ensures c.if-not-table_fits.false in
    let good = sym c.bad_shot.ensures ∙ c.in_default.is in
    let room = rw c.word-shots.ensures.0 at c.buffers_fit.ensures in
    short-book b a.tray.now a.t.now a.out.now table good (failed room c.if-not-buffers_fit.true)

pub is_valid_for-requires : goal.is_valid_for-requires
is_valid_for-requires c =
    let a = c.args in
    let b = opened a.book.now c.read.ensures.answer c.read.ensures.measured c.in_ok-numbers.was in
    let table = held c.table_fits.ensures c.if-not-table_fits.false in
    let good = sym c.bad_shot.ensures ∙ c.in_default.is in
    let room = rw c.word-shots.ensures.0 at c.buffers_fit.ensures in
    let fitting = held room c.if-not-buffers_fit.false in
    let h = b.hands in
    (h.dimension, h.qudits-sized, (rooms b a.tray.now a.t.now a.out.now table good fitting).0)

pub returns-then-not-is_valid_for : goal.returns-then-not-is_valid_for
returns-then-not-is_valid_for c =
    let a = c.args in
    let b = opened a.book.now c.read.ensures.answer c.read.ensures.measured c.in_ok-numbers.was in
    let table = held c.table_fits.ensures c.if-not-table_fits.false in
    let good = sym c.bad_shot.ensures ∙ c.in_default.is in
    let room = rw c.word-shots.ensures.0 at c.buffers_fit.ensures in
    let fitting = held room c.if-not-buffers_fit.false in
    invalid-book b a.tray.now a.t.now a.out.now table good fitting (failed c.is_valid_for.ensures c.if-not-is_valid_for.true)

pub operations-requires : goal.operations-requires
operations-requires c =
    let a = c.args in
    let b = opened a.book.now c.read.ensures.answer c.read.ensures.measured c.in_ok-numbers.was in
    (b.hands.bodies.room, b.hands.bodies.first)

pub choices-requires : goal.choices-requires
choices-requires c =
    let a = c.args in
    let b = opened a.book.now c.read.ensures.answer c.read.ensures.measured c.in_ok-numbers.was in
    (b.hands.bodies.room, b.hands.bodies.third)

pub run_shots-shifted-requires : goal.run_shots-shifted-requires
run_shots-shifted-requires c =
    let a = c.args in
    let b = opened a.book.now c.read.ensures.answer c.read.ensures.measured c.in_ok-numbers.was in
    let table = held c.table_fits.ensures c.if-not-table_fits.false in
    let good = sym c.bad_shot.ensures ∙ c.in_default.is in
    let room = rw c.word-shots.ensures.0 at c.buffers_fit.ensures in
    let fitting = held room c.if-not-buffers_fit.false in
    let tested = held c.is_valid_for.ensures c.if-not-is_valid_for.false in
    rw (c.operations.ensures, c.choices.ensures) (
      (rooms b a.tray.now a.t.now a.out.now table good fitting).0,
      given b a.tray.now a.t.now a.out.now table good fitting tested,
      sym b.hands.counted-part,
      (rooms b a.tray.now a.t.now a.out.now table good fitting).1,
    )

pub overflow_sub-clean : goal.overflow_sub-clean
overflow_sub-clean c =
    let a = c.args in
    let b = opened a.book.now c.read.ensures.answer c.read.ensures.measured c.in_ok-numbers.was in
    let table = held c.table_fits.ensures c.if-not-table_fits.false in
    let good = sym c.bad_shot.ensures ∙ c.in_default.is in
    let room = rw c.word-shots.ensures.0 at c.buffers_fit.ensures in
    let fitting = held room c.if-not-buffers_fit.false in
    let tested = held c.is_valid_for.ensures c.if-not-is_valid_for.false in
    let filled = rw (c.operations.ensures, c.choices.ensures) at c.run_shots-shifted.ensures in
    omega (arith, most b a.tray.now a.t.now a.out.now table good fitting tested filled.1, c.word-shots.ensures.0)

pub returns : goal.returns
returns c =
    let a = c.args in
    let b = opened a.book.now c.read.ensures.answer c.read.ensures.measured c.in_ok-numbers.was in
    let table = held c.table_fits.ensures c.if-not-table_fits.false in
    let good = sym c.bad_shot.ensures ∙ c.in_default.is in
    let room = rw c.word-shots.ensures.0 at c.buffers_fit.ensures in
    let fitting = held room c.if-not-buffers_fit.false in
    let tested = held c.is_valid_for.ensures c.if-not-is_valid_for.false in
    let filled = rw (c.operations.ensures, c.choices.ensures) at c.run_shots-shifted.ensures in
    rw c.word-shots.ensures.0 (run_book b a.tray.now a.t.now a.out.now table good fitting tested filled.1 filled.0)
