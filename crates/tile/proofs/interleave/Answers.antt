use Rattle.std.proofs.Common.{◌≡◌, ◌+◌, ◌*◌, refl, sym, arith}
use Rattle.tile.proofs.Bytes.{run_none, run_more, interleaved_even, interleaved_odd, run_interleaved}
use Rattle.tile.proofs.interleave.Goals as goal

pub loop-i-init : goal.loop-i-init
loop-i-init c = let z : 2 * 0 ≡ 0 = omega arith in rw z run_none

pub loop-i-preserved : goal.loop-i-preserved
loop-i-preserved c =
    let a = c.args in
    let i = c.loop-i.i in
    let next : 2 * (i + 1) ≡ 2 * i + 1 + 1 = omega arith in
    run_more _ _ _ (omega arith) next (omega arith) (sym (interleaved_odd a.transposed.now a.marks.now a.l i))
    (run_more _ _ _ refl refl (omega arith) (sym (interleaved_even a.transposed.now a.marks.now a.l i)) c.loop-i.invariant)

pub returns : goal.returns
returns c = run_interleaved _ _ _ (2 * c.loop-i.i) (omega arith) c.loop-i.invariant
