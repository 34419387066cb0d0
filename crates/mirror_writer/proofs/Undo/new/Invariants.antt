use Rattle.modular.specs.Dimension.{inverse}
use Rattle.row.proofs.Fill.{Filled}
use Rattle.mirror_writer.proofs.Undo.new.Given as goal

abbrev pub invariant-loop-u : goal.invariant-loop-u
invariant-loop-u l = Filled (inverse l.d) l.initial.inverses l.u l.inverses
