use Rattle.std.proofs.Common.{refl, sym}
use native.Mathlib.Nat.{le_antisymm}
use Rattle.search.specs.Search.{first_not}
use Rattle.search.proofs.Search.{none_yet, found}
use Rattle.book.specs.Decoded.{operations_of}
use Rattle.book.proofs.Lists.{op-count}
use Rattle.mirror_book.specs.MirrorBook.{gate_at}
use Rattle.mirror_writer.proofs.first_measurement.Goals as goal

pub loop-k-init : goal.loop-k-init
unfolding first_not
loop-k-init c = refl

pub operation_of-requires : goal.operation_of-requires
operation_of-requires c =
    let l = c.loop-k-test.true in (l, c.requires _ (rw (op-count c.args.d c.args.n c.args.ops.now) l))

pub returns-then-not-is_gate : goal.returns-then-not-is_gate
returns-then-not-is_gate c =
    let a = c.args in
    found (gate_at (operations_of a.d a.n a.ops.now)) _ _ (rw (op-count a.d a.n a.ops.now) c.loop-k-test.true) c.loop-k.invariant
    (rw c.operation_of.ensures at (sym c.if-not-is_gate.ensures))

pub loop-k-preserved : goal.loop-k-preserved
loop-k-preserved c =
    let a = c.args in
    none_yet (gate_at (operations_of a.d a.n a.ops.now)) _ c.loop-k.invariant (rw c.operation_of.ensures at (sym c.if-not-is_gate.ensures))

pub returns : goal.returns
returns c =
    let a = c.args in
    rw (op-count a.d a.n a.ops.now, ← le_antisymm c.loop-k.auto.k-end c.loop-k-test.false) (sym c.loop-k.invariant)
