use Rattle.std.proofs.Common.{◌≡◌, ℕ, length, ◌∙◌, ap, sym, arith}
use native.Mathlib.Nat.{le_antisymm}
use Rattle.row.specs.Row.{tab}
use Rattle.book.specs.Decoded.{operations_of}
use Rattle.book.proofs.Lists.{op-count}
use Rattle.mirror_book.specs.Mirrored.{mirror_at, mirrored}
use Rattle.mirror_book.specs.MirrorBook.{bytes_of_all}
use Rattle.mirror_writer.proofs.Written.{written_none, written-more, written_all}
use Rattle.mirror_writer.proofs.mirror_body.Goals as goal

pub loop-k-init : goal.loop-k-init
loop-k-init c = written_none _ _

pub mirror_entry-requires : goal.mirror_entry-requires
mirror_entry-requires c =
    record { entries = rw c.new-undo.ensures c.requires.entries; inside = c.loop-k-test.true; room = c.loop-k.auto.body ∙ c.requires.room }

pub loop-k-preserved : goal.loop-k-preserved
loop-k-preserved c = written-more _ _ _ _ c.loop-k.k c.loop-k.invariant (rw c.new-undo.ensures at c.mirror_entry.ensures)

pub returns : goal.returns
unfolding mirrored
returns c =
    let a = c.args in
    let f = mirror_at a.d (operations_of a.d a.n a.ops.now) in
    let e = le_antisymm c.loop-k.auto.k-end c.loop-k-test.false in
    let k : c.loop-k.k ≡ length (operations_of a.d a.n a.ops.now) = e ∙ sym (op-count a.d a.n a.ops.now) in
    written_all f _ _ c.loop-k.k c.loop-k.invariant (omega (arith, c.requires.entries.whole))
    ∙ ap (λ (m : ℕ). bytes_of_all (tab f m)) k
