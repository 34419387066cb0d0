use Rattle.std.proofs.Common.{◌≡◌, ◌+◌, ◌-◌, ◌*◌, ◌≤◌, ◌∙◌, length, sym, ap, arith}
use native.Mathlib.Nat.{mul-le-mul_right}
use Rattle.modular.proofs.Listed.{dimension}
use Rattle.tableau.specs.Tableau.{part, put}
use Rattle.tableau.proofs.Parts.{part_length}
use Rattle.tray.specs.Tray.{shots_in}
use Rattle.lane_shots.specs.LaneShots.{shifted_shots}
use Rattle.expand.proofs.Noisy.{noisy_most}
use Rattle.blocks.proofs.Assignment.{block_of}
use Rattle.blocks.proofs.Filling.{block_inside, filled-to, shifted-to, between}
use Rattle.blocks.proofs.Rows.{shifted-all, shot-rows}
use Rattle.blocks.proofs.tray_shots.TrayShots.fill_block.Goals as goal
use Rattle.blocks.proofs.tray_shots.TrayShots.fill_block.Goals.{After-assign-block}

pub invariant_of-errors : goal.invariant_of-errors
invariant_of-errors c =
    let shots = c.args.self.now in
    record { bodies = block_of c.assign-block.ensures.assigned shots.clean.m.d shots.clean.n shots.errors }

-- the block lies in the buffer
room : (c : After-assign-block) → let first = c.args.from.shot in
    let w = c.args.self.now.clean.w in
    first * w + (c.assign-block.result.end.shot - first) * w ≤ length c.args.out.now
room c =
    block_inside c.args.from.shot (c.assign-block.result.end.shot - c.args.from.shot) (shots_in c.args.self.now.tray.now) c.args.self.now.clean.w _ c.assign-block.ensures.block.inside c.requires.room

bytes : (c : After-assign-block) → let first = c.args.from.shot in
    let w = c.args.self.now.clean.w in
    c.assign-block.result.end.shot * w - first * w ≡ (c.assign-block.result.end.shot - first) * w
bytes c = between c.args.from.shot c.assign-block.result.end.shot c.args.self.now.clean.w (omega (arith, c.assign-block.ensures.some))

pub fill-shifted-requires-clause-shots : goal.fill-shifted-requires-clause-shots
unfolding part
fill-shifted-requires-clause-shots c =
    let a = (goal.at.fill-shifted-requires-clause-shots c).After-assign-block in
    let shots = c.args.self.now in
    let first = c.args.from.shot in
    let count = c.assign-block.result.end.shot - first in
    let w = shots.clean.w in
    let block = c.assign-block.ensures.block in
    let few : c.assign-block.result.noisy ≤ count = omega (arith, block.noisy_count, noisy_most shots.tray.now first count) in
    let size = part_length (first * w) (count * w) c.args.out.now (room a) in
    record { lanes = block.lanes; narrow = shots.clean_shots.narrow; room = simp (bytes a) (omega (arith, mul-le-mul_right w few, size)) }

pub expand-requires-clause-rows : goal.expand-requires-clause-rows
unfolding part
expand-requires-clause-rows c =
    let a = (goal.at.expand-requires-clause-rows c).After-assign-block in
    let shots = c.args.self.now in
    let first = c.args.from.shot in
    let count = c.assign-block.result.end.shot - first in
    let w = shots.clean.w in
    let size = part_length (first * w) (count * w) c.args.out.now (room a) in
    record {
      width = omega (arith, shots.clean_shots.width, shots.clean_shots.exact);
      narrow = shots.clean_shots.narrow;
      shots = c.assign-block.ensures.block.inside;
      table = shots.errors.lies.table;
      room = omega (arith, size, simp (bytes a) at c.fill-shifted.ensures.rows.len);
    }

pub returns-clause-filled : goal.returns-clause-filled
unfolding part put
returns-clause-filled c =
    let a = (goal.at.returns-clause-filled c).After-assign-block in
    let shots = c.args.self.now in
    let clean = shots.clean_shots in
    let first = c.args.from.shot in
    let count = c.assign-block.result.end.shot - first in
    let block = c.assign-block.ensures.block in
    let last : first + count ≡ c.assign-block.result.end.shot = omega (arith, c.assign-block.ensures.some) in
    let rows = shot-rows _ _ (dimension _ clean.circuit.dimension) _ clean.circuit.operations _ _ _ _ _ c.assign-block.ensures.assigned clean.exact clean.circuit.below _ _ _ _ (rw block.noisy_count at c.fill-shifted.ensures.rows) c.expand.ensures in
    rw (bytes a) (filled-to _ _ _ _ _ shots.clean.w first count c.args.out.now _ (room a) (rw (bytes a) at rows) last)

pub returns-clause-shifted : goal.returns-clause-shifted
returns-clause-shifted c =
    let shots = c.args.self.now in
    let clean = shots.clean_shots in
    let first = c.args.from.shot in
    let count = c.assign-block.result.end.shot - first in
    let last : first + count ≡ c.assign-block.result.end.shot = omega (arith, c.assign-block.ensures.some) in
    let all = shifted-all _ _ (dimension _ clean.circuit.dimension) _ clean.circuit.operations _ _ _ _ _ c.assign-block.ensures.assigned in
    let lanes = c.fill-shifted.ensures.shifted ∙ ap (shifted_shots _ _ _ _ _) c.assign-block.ensures.block.noisy_count ∙ all in
    shifted-to _ _ _ _ _ shots.clean.w first count last ∙ ap (◌+◌ _) (sym lanes)
