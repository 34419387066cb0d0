-- The powers up to h are there, and the next phase and its gain are known.
use Rattle.std.proofs.Common.{◌≡◌, ◌+◌, ◌*◌, ◌%◌, ◌≤◌}
use Rattle.row.specs.Row.{phase_of, dot, power}
use Rattle.measurement_collapse.specs.FreeMeasurement.{PowersOf}
use Rattle.measurement_collapse.proofs.fill_powers.Given as goal

abbrev pub invariant-loop-h : goal.invariant-loop-h
invariant-loop-h l =
    (l.h + 1 ≤ l.m.d)
    × PowersOf l.m.d l.n l.pivot l.p (l.h + 1)
    × (l.phase ≡ phase_of l.n (power l.m.d l.n l.h l.pivot))
    × (l.gain ≡ (phase_of l.n l.pivot + l.h * dot l.n l.pivot l.pivot l.n) % l.m.d)
