use Rattle.std.proofs.Common.{◌≡◌, ℕ, ◌+◌, ◌*◌, ◌/◌, ◌%◌, get_or, refl, sym, ap, arith}
use Rattle.tile.proofs.Bytes.{run_none, run_more, run_shuffled}
use Rattle.tile.proofs.shuffle.Goals as goal

pub loop-i-init : goal.loop-i-init
loop-i-init c = let z : 2 * 0 ≡ 0 = omega arith in rw z run_none

pub loop-i-preserved : goal.loop-i-preserved
loop-i-preserved c =
    let i = c.loop-i.i in
    let src = c.args.src.now in
    let even : 2048 * (2 * i % 2) + 2 * i / 2 ≡ i = omega arith in
    let odd : 2048 * ((2 * i + 1) % 2) + (2 * i + 1) / 2 ≡ 2048 + i = omega arith in
    let next : 2 * (i + 1) ≡ 2 * i + 1 + 1 = omega arith in
    run_more _ _ _ (omega arith) next (omega arith) (ap (λ (x : ℕ). get_or src x 0) (sym odd))
    (run_more _ _ _ (omega arith) refl (omega arith) (ap (λ (x : ℕ). get_or src x 0) (sym even)) c.loop-i.invariant)

pub returns : goal.returns
returns c = run_shuffled (2 * c.loop-i.i) c.requires.dst_room (omega arith) c.loop-i.invariant
