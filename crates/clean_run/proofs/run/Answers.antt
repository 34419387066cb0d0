-- A listed dimension is 3 to 31.
use Rattle.modular.proofs.Listed.{dimension}
use Rattle.clean_run.proofs.run.Goals as goal

pub new-tables-requires : goal.new-tables-requires
new-tables-requires c = let k = dimension _ c.requires.dimension in record { low = k.low; high = k.high }
