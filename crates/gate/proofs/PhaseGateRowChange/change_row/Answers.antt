-- The gain may be reduced before it is added.
use native.Mathlib.Nat.{add-mod-mod}
use Rattle.operation.specs.Gate.{gate_powers, gate_phase, gate_row}
use Rattle.gate.proofs.Phases.{add-multiple}
use Rattle.gate.proofs.PhaseGateRowChange.change_row.Goals as goal

pub returns : goal.returns
unfolding gate_row gate_phase gate_powers
returns g c = simp (c.sum-r.ensures, c.sum-b.ensures, c.multiple.ensures, c.multiple-g.ensures, c.triangle.ensures, add-mod-mod, add-multiple)
