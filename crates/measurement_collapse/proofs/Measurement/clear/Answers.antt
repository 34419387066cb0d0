-- A listed row lies in the tableau, and is one still after it is cleared.
use Rattle.std.proofs.Common.{ℕ, ◌+◌, ◌*◌, ◌<◌, take, refl, ap, ◌∙◌, arith}
use native.Mathlib.Nat.{add-sub_cancel_left, le_antisymm}
use lib.Seq.{take-length}
use Rattle.tableau.specs.Tableau.{part, put}
use Rattle.tableau.proofs.Parts.{row_room, tableau-row, tableau-put}
use Rattle.measurement_collapse.specs.Clearing.{cleared_by}
use Rattle.measurement_collapse.proofs.Sweep.{chosen_less, sweep, sweep-more, sweep-chosen, cleared-row}
use Rattle.measurement_collapse.proofs.Measurement.clear.Goals as goal

pub loop-i-init : goal.loop-i-init
unfolding sweep
loop-i-init c = (c.requires.rows, refl)

pub slice_bounds-clear_row-end : goal.slice_bounds-clear_row-end
slice_bounds-clear_row-end c =
    let n = c.args.self.now.n in
    let l : c.from.result < 2 * n = rw (c.from.ensures, c.requires.listed) (chosen_less _ (2 * n) c.loop-i.i-index (rw (← c.requires.listed) c.loop-i-test.true)) in
    omega (arith, row_room n c.loop-i.t c.loop-i.invariant.0.room c.from.result l)

pub clear_row-requires : goal.clear_row-requires
unfolding part
clear_row-requires c =
    let n = c.args.self.now.n in
    let l : c.from.result < 2 * n = rw (c.from.ensures, c.requires.listed) (chosen_less _ (2 * n) c.loop-i.i-index (rw (← c.requires.listed) c.loop-i-test.true)) in
    simp add-sub_cancel_left (tableau-row _ n _ c.loop-i.invariant.0 c.from.result l)

pub loop-i-preserved : goal.loop-i-preserved
unfolding part put
loop-i-preserved c =
    let s = c.args.self.now in
    let l : c.from.result < 2 * s.n = rw (c.from.ensures, c.requires.listed) (chosen_less _ (2 * s.n) c.loop-i.i-index (rw (← c.requires.listed) c.loop-i-test.true)) in
    let e = simp add-sub_cancel_left at c.clear_row.ensures in (
      simp (add-sub_cancel_left, e) (tableau-put _ s.n c.loop-i.t c.loop-i.invariant.0 c.from.result l _ (cleared-row s.m.d s.n s.q _ _ (omega arith))),
      sweep-more _ _ _ c.args.list.now c.loop-i.i-index c.loop-i.t _ c.loop-i-test.true c.loop-i.invariant.1 (simp (add-sub_cancel_left, e, c.from.ensures)),
    )

pub returns-clause-cleared : goal.returns-clause-cleared
returns-clause-cleared c =
    let s = c.args.self.now in
    let f = cleared_by s in
    let w = 2 * s.n + 1 in
    let t = c.args.t.now in
    c.loop-i.invariant.1
    ∙ ap (λ (x : ℕ). sweep f w t (take x c.args.list.now)) (le_antisymm c.loop-i.auto.i-index-end c.loop-i-test.false)
    ∙ ap (sweep f w t) (take-length c.args.list.now ∙ c.requires.listed)
    ∙ sweep-chosen f w t _ (2 * s.n)
