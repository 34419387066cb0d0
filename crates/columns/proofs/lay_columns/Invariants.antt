use Rattle.std.proofs.Common.{◌≡◌, length}
use Rattle.columns.specs.Columns.{Laid}
use Rattle.columns.proofs.lay_columns.Given as goal

abbrev pub invariant-loop-s : goal.invariant-loop-s
invariant-loop-s l = record { len : length l.columns ≡ 128; laid : Laid l.n l.t l.s l.columns }
