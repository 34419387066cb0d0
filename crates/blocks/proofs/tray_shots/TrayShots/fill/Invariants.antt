use Rattle.std.proofs.Common.{◌≡◌, ◌≤◌, ◌-◌}
use Rattle.tray.specs.Tray.{start_of}
use Rattle.blocks.specs.Filled.{TrayFilled, shifted_in_tray}
use Rattle.blocks.proofs.tray_shots.TrayShots.fill.Given as goal

abbrev pub invariant-loop-at : goal.invariant-loop-at
invariant-loop-at l = record {
  inside : l.at.shot ≤ l.shots;
  begins : l.at.start ≡ start_of l.self.tray.now l.at.shot;
  shifted : l.shifted ≡ shifted_in_tray l.self l.at.shot;
  filled : TrayFilled l.self 0 l.at.shot l.initial.out l.out;
}

abbrev pub decreases-loop-at : goal.decreases-loop-at
decreases-loop-at l = l.shots - l.at.shot
