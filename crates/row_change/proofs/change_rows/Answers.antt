-- Row i is a row still when its turn comes, and what the change makes of it is put in its place.
use Rattle.std.proofs.Common.{◌≡◌, ℕ, List, refl, sym, ap, ◌∙◌, ◌+◌, ◌*◌, ◌≤◌, length, drop, arith}
use Rattle.std.proofs.Math.Seq.{drop-drop}
use native.Mathlib.Nat.{add-sub_cancel_left}
use Rattle.tableau.specs.Tableau.{each_row, part, put}
use Rattle.tableau.proofs.Parts.{each_more, drop-put, row_room, part_length, tableau-row}
use Rattle.row_change.proofs.change_rows.Goals as goal

-- a row put in its place leaves what stands behind it
behind : (i w : ℕ) (ys t u : List ℕ) → i * w + w ≤ length t → length ys ≡ w → drop (i * w) t ≡ drop (i * w) u → drop ((i + 1) * w) (put (i * w) w ys t) ≡ drop ((i + 1) * w) u
behind i w ys t u room e same =
    let q : (i + 1) * w ≡ i * w + w = omega arith in
    rw q (drop-put (i * w) w ys t room e ∙ sym (drop-drop w (i * w) t) ∙ ap (drop w) same ∙ drop-drop w (i * w) u)

pub loop-i-init : goal.loop-i-init
unfolding each_row
loop-i-init g c = (refl, refl)

pub change_row-requires-clause-row : goal.change_row-requires-clause-row
unfolding part
change_row-requires-clause-row g c =
    simp (add-sub_cancel_left, c.loop-i.invariant.1) (tableau-row _ _ _ c.requires.rows c.loop-i.i (omega arith))

pub loop-i-preserved : goal.loop-i-preserved
unfolding part put
loop-i-preserved g c =
    let room = row_room c.args.n c.args.t.now c.requires.rows.room c.loop-i.i (omega arith) in
    let fits = part_length (c.loop-i.i * (2 * c.args.n + 1)) (2 * c.args.n + 1) c.loop-i.t (omega arith) in (
      each_more _ _ _ _ _ _ c.loop-i.invariant.0 (simp (c.change_row.ensures, add-sub_cancel_left)),
      simp add-sub_cancel_left
          (behind c.loop-i.i (2 * c.args.n + 1) c.change_row.new.v c.loop-i.t c.args.t.now (omega arith)
          (simp add-sub_cancel_left at c.change_row.auto.v ∙ fits)
          c.loop-i.invariant.1),
    )
