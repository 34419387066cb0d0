use Rattle.std.proofs.Common.{◌≡◌}
use Rattle.expand.specs.Expand.{noisy_among, Expanding}
use Rattle.expand.proofs.expand.Given as goal

abbrev pub invariant-loop-i : goal.invariant-loop-i
invariant-loop-i l = record {
  noisy_count : l.k ≡ noisy_among l.tray l.first l.i;
  expanding : Expanding l.tray l.first l.clean l.w l.count l.i l.initial.out l.out;
}
