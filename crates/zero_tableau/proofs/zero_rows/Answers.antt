-- What is laid for row i is put in its place.
use Rattle.std.proofs.Common.{refl}
use native.Mathlib.Nat.{add-sub_cancel_left}
use Rattle.tableau.specs.Tableau.{each_row, put}
use Rattle.tableau.proofs.Parts.{each_more, each_all}
use Rattle.zero_tableau.specs.ZeroTableau.{zero_tableau}
use Rattle.zero_tableau.proofs.zero_rows.Goals as goal

pub loop-i-init : goal.loop-i-init
unfolding each_row
loop-i-init c = refl

pub loop-i-preserved : goal.loop-i-preserved
unfolding put
loop-i-preserved c = each_more _ _ _ _ _ _ c.loop-i.invariant (simp (c.unit_row.ensures, add-sub_cancel_left))

pub returns : goal.returns
unfolding zero_tableau
returns c = each_all _ _ _ _ _ _ c.loop-i.invariant c.loop-i.auto.i-end c.loop-i-test.false
