-- The phase gains nothing.
use Rattle.std.proofs.Common.{refl}
use Rattle.operation.specs.Gate.{gate_phase}
use Rattle.operation.proofs.Gate.{plain}
use Rattle.gate.proofs.SwapRowChange.change_row.Goals as goal

pub returns : goal.returns
unfolding gate_phase
returns c = rw (plain _ _ _ _ c.requires.can_change c.requires.row refl) (c.swap_powers.ensures _)
