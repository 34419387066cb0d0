-- A listed dimension is a byte.
use Rattle.std.proofs.Common.{sym, ◌∙◌, arith}
use Rattle.modular.proofs.Listed.{dimension}
use Rattle.writer.proofs.Parts.read.Goals as goal

pub overflow_cast-self : goal.overflow_cast-self
overflow_cast-self c = omega (arith, (dimension _ (sym c.is_listed.ensures ∙ c.if-not-is_listed.false)).high)
