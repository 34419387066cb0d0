use Rattle.std.proofs.Common.{◌∙◌, arith}
use Rattle.lane_shots.proofs.Starting.{all-queued}
use Rattle.lane_shots.proofs.enqueue_all.Goals as goal

pub returns : goal.returns
returns c =
    let i = c.loop-l.invariant in
    all-queued (λ l h. i.lanes l (omega arith)) (i.counts ∙ c.requires.empty) (i.cursors ∙ c.requires.none_taken)
