-- Row i is as it was when its turn comes, so its shift is that of the first tableau.
use Rattle.std.proofs.Common.{◌≡◌, ◌+◌, ◌*◌, ◌≤◌, length, refl, ◌∙◌, arith}
use native.Mathlib.Nat.{le_refl, add-sub_cancel_left}
use Rattle.row.specs.Fill.{filled}
use Rattle.row.proofs.Fill.{filled_none, filled_more, filled-all}
use Rattle.tableau.specs.Tableau.{each_row, part, put}
use Rattle.tableau.proofs.Parts.{each_later, row_room, each_more, turn-row}
use Rattle.runs.specs.Frame.{shift_at}
use Rattle.runs.proofs.Frames.{shift-keeps}
use Rattle.frame_end.proofs.shift_rows.Goals as goal

pub loop-i-init : goal.loop-i-init
unfolding each_row
loop-i-init c = (refl, filled_none _ _)

pub shift_row-requires-clause-row : goal.shift_row-requires-clause-row
unfolding part
shift_row-requires-clause-row c =
    let a = c.args in
    let k = shift-keeps a.m.d a.n a.frame.now in
    simp add-sub_cancel_left (turn-row _ _ _ k _ c.requires.rows c.loop-i.i (omega arith) _ c.loop-i.invariant.0)

pub loop-i-preserved : goal.loop-i-preserved
unfolding part put
loop-i-preserved c =
    let a = c.args in
    let l = c.loop-i in
    let k = shift-keeps a.m.d a.n a.frame.now in
    let room : l.i * (2 * a.n + 1) ≤ length a.t.now = omega (arith, row_room a.n a.t.now c.requires.rows.room l.i (omega arith)) in
    let kept : shift_at a.m.d a.n a.frame.now l.t l.i ≡ shift_at a.m.d a.n a.frame.now a.t.now l.i =
    rw (l.invariant.0, each_later _ (2 * a.n + 1) a.t.now k l.i l.i (le_refl l.i) room) in (
      each_more _ _ _ _ _ _ l.invariant.0 (simp (c.shift_row.ensures.added, add-sub_cancel_left)),
      filled_more _ _ _ _ l.invariant.1 (omega arith) _ (simp add-sub_cancel_left at c.shift_row.ensures.shift ∙ kept),
    )

pub returns-clause-written : goal.returns-clause-written
unfolding filled
returns-clause-written c = filled-all _ _ _ _ _ c.loop-i.invariant.1 c.loop-i.auto.i-end c.loop-i-test.false
