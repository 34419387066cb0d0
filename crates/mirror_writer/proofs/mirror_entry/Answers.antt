use Rattle.mirror_writer.proofs.Entry.{from-asked, mirror-stored}
use Rattle.mirror_writer.proofs.mirror_entry.Goals as goal

pub last_byte-last-requires : goal.last_byte-last-requires
last_byte-last-requires c =
    let a = c.args in
    let e = from-asked a.undo.now.d a.n a.ops.now c.requires.entries a.k c.requires.inside in
    record { gate = e.code; small = e.small; within = e.within }

pub returns : goal.returns
returns c =
    let a = c.args in
    rw c.last_byte-last.ensures
    (mirror-stored a.undo.now.d a.n a.ops.now c.requires.entries a.k c.requires.inside a.body.now c.requires.room)
