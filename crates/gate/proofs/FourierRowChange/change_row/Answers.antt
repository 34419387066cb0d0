-- The three new bytes are those of the table of operations.
use Rattle.operation.specs.Gate.{gate_powers, gate_phase, gate_row}
use Rattle.gate.proofs.FourierRowChange.change_row.Goals as goal

pub returns : goal.returns
unfolding gate_row gate_phase gate_powers
returns g c = rw (c.fourier_z.ensures, c.fourier_x.ensures, c.fourier_phase-r.ensures)
