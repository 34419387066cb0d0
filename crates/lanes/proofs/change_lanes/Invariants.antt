use Rattle.lanes.specs.Lanes.{Lanes}
use Rattle.lanes.proofs.Lanes.{Done}
use Rattle.lanes.proofs.change_lanes.Given as goal

abbrev pub invariant-loop-l : goal.invariant-loop-l
invariant-loop-l g l = Done (g.C.FrameChange.change l.change l.m.d l.n) l.n l.l l.fn.v l.v × Lanes l.m.d l.n l.v
