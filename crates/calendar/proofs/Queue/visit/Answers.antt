use Rattle.std.proofs.Common.{◌≡◌, ◌<◌, ◌%◌, length, sym, arith, rules}
use Rattle.calendar.proofs.Calendar.{waiting-one, queue_spent, queue_pushed, errors-taken-applied, place-some, place-none}
use Rattle.calendar.proofs.Queue.visit.Goals as goal

pub push-requires-clause-room : goal.push-requires-clause-room
push-requires-clause-room c =
    let m = c.in-Some.ensures.moved in
    let r : c.min-place.result % 256 < 256 = omega arith in
    rw m.moved (omega (arith, c.requires.queue.few, waiting-one c.args.self.now.counts _ 256 r))

pub returns-in-Some-clause-queue : goal.returns-in-Some-clause-queue
returns-in-Some-clause-queue c =
    let s = c.args.self.now in
    let l = c.from-l in
    let m = c.in-Some.ensures.moved in
    let slots : length s.slots ≡ 65536 = search rules in
    let counts : length s.counts ≡ 256 = search rules in
    let cursors : length s.cursors ≡ 256 = search rules in
    let next = place-some _ m.cursor c.in-Some.at (sym m.place) in
    let later = m.reached.left m.cursor (omega arith) next.0 in
    let pushed = queue_pushed c.args.k cursors c.requires.queue l.result m.cursor (omega arith) (sym l.ensures) m.reached slots counts c.min-place.result next.0 (omega arith) (omega arith) (omega arith) in
    rw (c.push.ensures, m.moved) pushed

pub returns-in-Some-clause-taken : goal.returns-in-Some-clause-taken
returns-in-Some-clause-taken c =
    let m = c.in-Some.ensures.moved in
    let cursors : length c.args.self.now.cursors ≡ 256 = search rules in
    rw (c.push.ensures, m.moved) (errors-taken-applied c.args.k cursors c.requires.queue c.from-l.result m.cursor (omega arith) (sym c.from-l.ensures) m.reached m.after-errors)

pub returns-in_default-clause-queue : goal.returns-in_default-clause-queue
returns-in_default-clause-queue c =
    let m = c.in_default.ensures.moved in
    let cursors : length c.args.self.now.cursors ≡ 256 = search rules in
    rw m.moved (queue_spent c.args.k cursors c.requires.queue c.from-l.result m.cursor (omega arith) (sym c.from-l.ensures) m.reached (place-none _ m.cursor (sym m.place)))

pub returns-in_default-clause-taken : goal.returns-in_default-clause-taken
returns-in_default-clause-taken c =
    let m = c.in_default.ensures.moved in
    let cursors : length c.args.self.now.cursors ≡ 256 = search rules in
    rw m.moved (errors-taken-applied c.args.k cursors c.requires.queue c.from-l.result m.cursor (omega arith) (sym c.from-l.ensures) m.reached m.after-errors)
