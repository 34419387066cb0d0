use Rattle.std.proofs.Common.{◌≡◌, ◌+◌, ◌*◌, refl, sym, arith}
use Rattle.tile.proofs.Bytes.{run_none, run_more}
use Rattle.sheet_tile.proofs.Rows.{woven_even, woven_odd, run_woven}
use Rattle.sheet_tile.proofs.weave.Goals as goal

pub loop-i-init : goal.loop-i-init
loop-i-init c = let z : 2 * 0 ≡ 0 = omega arith in rw z run_none

pub loop-i-preserved : goal.loop-i-preserved
loop-i-preserved c =
    let i = c.loop-i.i in
    let transposed = c.args.transposed.now in
    let next : 2 * (i + 1) ≡ 2 * i + 1 + 1 = omega arith in
    run_more _ _ _ (omega arith) next (omega arith) (sym (woven_odd transposed c.args.l i))
    (run_more _ _ _ refl refl (omega arith) (sym (woven_even transposed c.args.l i)) c.loop-i.invariant)

pub returns : goal.returns
returns c = run_woven _ _ _ _ (2 * c.loop-i.i) (omega arith) c.loop-i.invariant
