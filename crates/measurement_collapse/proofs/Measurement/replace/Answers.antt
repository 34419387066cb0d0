-- The power that is copied is a row, and so is Z on q.
use Rattle.std.proofs.Common.{length, sym, ap, ◌∙◌, arith}
use native.Mathlib.Nat.{add-sub_cancel_left}
use Rattle.modular.proofs.Listed.{inverse-less}
use Rattle.row.specs.Generators.{z_with}
use Rattle.row.proofs.Laws.{power-row}
use Rattle.tableau.specs.Tableau.{part, put}
use Rattle.tableau.proofs.Parts.{row-length}
use Rattle.measurement_collapse.proofs.Measurement.replace.Goals as goal

pub power-requires : goal.power-requires
power-requires c = let s = c.args.self.now in rw s.prepared.inverts (inverse-less _ _ s.low)

pub copy_from_slice-requires : goal.copy_from_slice-requires
unfolding part
copy_from_slice-requires c =
    let s = c.args.self.now in
    simp add-sub_cancel_left
    (row-length s.n c.args.t.now c.requires.room s.k (omega arith) ∙ sym (ap length c.power.ensures ∙ (power-row _ s.n s.inv _ (omega arith)).len))

pub returns : goal.returns
unfolding part put z_with
returns c = simp (c.unit_row.ensures, c.copy_from_slice.ensures.after, c.power.ensures, c.negative.ensures, add-sub_cancel_left)
