use Rattle.block.proofs.Results.{same_held}
use Rattle.block.proofs.Block.correct.Goals as goal

pub returns-clause-held : goal.returns-clause-held
returns-clause-held c = same_held _ _
