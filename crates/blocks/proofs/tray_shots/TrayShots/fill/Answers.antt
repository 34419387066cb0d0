use Rattle.std.proofs.Common.{ℕ, ◌+◌, ◌*◌, sym, ap, arith}
use native.Mathlib.Nat.{mul-le-mul_right}
use Rattle.tray.specs.Tray.{start_of}
use Rattle.runs.specs.Direct.{state_of}
use Rattle.block.specs.Block.{operations_in}
use Rattle.blocks.specs.Blocks.{shot_errors}
use Rattle.blocks.proofs.Filling.{filled_none, filled_more, shifted_none, shifted-few}
use Rattle.blocks.proofs.tray_shots.TrayShots.fill.Goals as goal

pub loop-at-init : goal.loop-at-init
unfolding start_of
loop-at-init c =
    record {
      inside = omega arith;
      begins = ap (λ (x : ℕ). 2 + 2 * x) c.word-shots.ensures.0;
      shifted = sym (shifted_none _ _ _ _ _ c.args.self.now.clean.w);
      filled = filled_none _ _ _ _ _ _ _;
    }

pub overflow_add-shifted : goal.overflow_add-shifted
overflow_add-shifted c =
    let shots = c.args.self.now in
    let clean = shots.clean in
    let e = c.fill_block-block.ensures in
    omega (
      arith,
      c.loop-at.invariant.shifted,
      e.shifted,
      shifted-few clean.m.d clean.n (operations_in clean) (state_of clean.t.now clean.results.now) (shot_errors shots.tray.now) clean.w c.fill_block-block.result.end.shot,
      e.inside,
      shots.errors.lies.shots,
    )

pub loop-at-preserved : goal.loop-at-preserved
loop-at-preserved c =
    let i = c.loop-at.invariant in
    let e = c.fill_block-block.ensures in
    let room = mul-le-mul_right c.args.self.now.clean.w e.inside in
    record {
      inside = omega (arith, e.inside, c.word-shots.ensures.0);
      begins = e.begins;
      shifted = omega (arith, i.shifted, e.shifted);
      filled = filled_more _ _ _ _ _ _ c.loop-at.at.shot c.fill_block-block.result.end.shot _ _ _ (omega (arith, e.some)) (omega (arith, room, c.requires)) i.filled e.filled;
    }
