-- The rows below i are listed.
use Rattle.std.proofs.Common.{◌≡◌, ◌≤◌, take}
use Rattle.measurement_collapse.specs.Changing.{selected}
use Rattle.measurement_collapse.specs.Clearing.{changed_by}
use Rattle.measurement_collapse.proofs.Measurement.list_changing.Given as goal

abbrev pub invariant-loop-i : goal.invariant-loop-i
invariant-loop-i l = (l.count ≤ l.i) × (take l.count l.list ≡ selected (changed_by l.self l.t) l.i)
