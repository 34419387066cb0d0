use Rattle.block.proofs.Results.{results_flushed}
use Rattle.block.proofs.Block.flush_full.Goals as goal

pub returns-then-self-ge16-clause-results : goal.returns-then-self-ge16-clause-results
returns-then-self-ge16-clause-results c =
    let e = c.flush.ensures in
    λ errors t. results_flushed c.requires.shots.lanes t e.flushed e.first e.count
