-- The rows listed before this place are cleared.
use Rattle.std.proofs.Common.{◌≡◌, ◌+◌, ◌*◌, take}
use Rattle.tableau.specs.Tableau.{Tableau}
use Rattle.measurement_collapse.specs.Clearing.{cleared_by}
use Rattle.measurement_collapse.proofs.Sweep.{sweep}
use Rattle.measurement_collapse.proofs.Measurement.clear.Given as goal

abbrev pub invariant-loop-i : goal.invariant-loop-i
invariant-loop-i l =
    Tableau l.self.m.d l.self.n l.t
    × (l.t ≡ sweep (cleared_by l.self) (2 * l.self.n + 1) l.initial.t (take l.i-index l.list))
