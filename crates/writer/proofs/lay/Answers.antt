use native.Mathlib.Nat.{add-sub_cancel_left}
use Rattle.tableau.specs.Tableau.{put}
use Rattle.writer.proofs.lay.Goals as goal

pub returns : goal.returns
unfolding put
returns c = simp (c.copy.ensures, add-sub_cancel_left)
