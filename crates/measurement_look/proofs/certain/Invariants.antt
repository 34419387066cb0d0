-- The terms so far, each at most 1,729,860.
use Rattle.std.proofs.Common.{◌≡◌, ◌≤◌, ◌*◌}
use Rattle.measurement.specs.Look.{destabilizer_power}
use Rattle.measurement_look.specs.Sums.{phase_sum}
use Rattle.measurement_look.proofs.certain.Given as goal

abbrev pub invariant-loop-i : goal.invariant-loop-i
invariant-loop-i l = record {
  so_far : l.sum ≡ phase_sum l.d l.n l.t (destabilizer_power l.n l.t l.q) l.i;
  most : l.sum ≤ 1729860 * l.i;
}
