use native.Mathlib.Nat.{add-sub_cancel_left}
use Rattle.tableau.specs.Tableau.{part}
use Rattle.calendar.proofs.lane_errors.LaneErrors.body.Goals as goal

pub returns : goal.returns
unfolding part
returns c = simp add-sub_cancel_left
