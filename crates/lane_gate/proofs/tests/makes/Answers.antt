use Rattle.std.proofs.Common.{refl}
use Rattle.modular.specs.Dimension.{listed}
use Rattle.lane_gate.proofs.tests.makes.Goals as goal

pub gate_lanes-requires-clause-dimension : goal.gate_lanes-requires-clause-dimension
unfolding listed
gate_lanes-requires-clause-dimension g c = rw c.new-m.ensures refl
