-- What the reader has let through is what each step is handed.
use Rattle.std.proofs.Common.{sym, ◌∙◌}
use Rattle.book.proofs.Handed.{handed, choices-counted}
use Rattle.mirror_writer.proofs.Books.{most, allows, names, entries, measuring-book, short-book, mirrored-book}
use Rattle.mirror_writer.proofs.mirror_or_refuse.Goals as goal

pub operations-ops-requires : goal.operations-ops-requires
operations-ops-requires c =
    let r = c.in_ok-numbers in
    let g = handed c.args.book.now c.read.ensures.answer c.read.ensures.measured r.was in
    (g.bodies.room, g.bodies.first)

pub measurement_in-requires : goal.measurement_in-requires
measurement_in-requires c =
    let s = c.args.book.now in
    let g = handed s c.read.ensures.answer c.read.ensures.measured c.in_ok-numbers.was in
    let is = c.operations-ops.ensures in
    record { allowed = allows s g is; names = names s g is; counted = rw is (choices-counted s c.read.ensures.answer c.in_ok-numbers.was) }

pub returns-in-Some : goal.returns-in-Some
returns-in-Some c =
    let s = c.args.book.now in
    let g = handed s c.read.ensures.answer c.read.ensures.measured c.in_ok-numbers.was in
    measuring-book s g c.operations-ops.ensures c.args.out.now _ (sym c.in-Some.is ∙ c.measurement_in.ensures)

pub returns-then-out-size : goal.returns-then-out-size
returns-then-out-size c =
    let s = c.args.book.now in
    let g = handed s c.read.ensures.answer c.read.ensures.measured c.in_ok-numbers.was in
    short-book s g c.operations-ops.ensures c.args.out.now (sym c.in_default.is ∙ c.measurement_in.ensures) c.if-out-size.true

pub write_mirror-requires : goal.write_mirror-requires
write_mirror-requires c =
    let s = c.args.book.now in
    let g = handed s c.read.ensures.answer c.read.ensures.measured c.in_ok-numbers.was in
    let is = c.operations-ops.ensures in
    record { entries = entries s g is (sym c.in_default.is ∙ c.measurement_in.ensures); few = most s g is; qudits = g.qudits; room = c.if-out-size.false }

pub returns : goal.returns
returns c =
    let s = c.args.book.now in
    let g = handed s c.read.ensures.answer c.read.ensures.measured c.in_ok-numbers.was in
    rw c.write_mirror.ensures
    (mirrored-book s g c.operations-ops.ensures c.args.out.now (sym c.in_default.is ∙ c.measurement_in.ensures) c.if-out-size.false)
