use Rattle.std.proofs.Common.{◌≡◌, ◌+◌, ◌*◌, ◌≤◌, length, refl, arith}
use native.Mathlib.Nat.{add-sub_cancel_left}
use Rattle.tableau.specs.Tableau.{part, put}
use Rattle.tableau.proofs.Parts.{row_in, part_length}
use Rattle.tile.proofs.Rows.{changing_none, changing_more, changing_all}
use Rattle.tile.proofs.change_rows.Goals as goal

pub loop-l-init : goal.loop-l-init
loop-l-init g c = changing_none

pub loop-l-preserved : goal.loop-l-preserved
unfolding part put
loop-l-preserved g c =
    let l = c.loop-l.l in
    let w = c.args.w in
    let room : l * w + w ≤ length c.loop-l.out = omega (arith, row_in l c.args.used w c.loop-l-test.true, c.loop-l.invariant.len) in
    let size : length c.f.new.arg2 ≡ w = omega (arith, simp add-sub_cancel_left at c.f.auto.arg2, part_length (l * w) w c.loop-l.out room) in
    simp add-sub_cancel_left (changing_more l _ c.loop-l-test.true c.requires.room size c.loop-l.invariant
    (record { given = _; left = _; called = c.f.ensures; shows = simp add-sub_cancel_left; leaves = refl }))

pub returns : goal.returns
returns g c = changing_all _ c.loop-l-test.false c.loop-l.invariant
