use Rattle.std.proofs.Common.{◌≡◌, ◌≤◌, ◌-◌, length}
use Rattle.tray.specs.Tray.{start_of}
use Rattle.expand.specs.Expand.{noisy_among}
use Rattle.blocks.specs.Blocks.{Assigned}
use Rattle.blocks.proofs.assign.Given as goal

abbrev pub invariant-loop-shot : goal.invariant-loop-shot
invariant-loop-shot l = record {
  assigned : Assigned l.tray l.fn.from.shot (l.shot - l.fn.from.shot) l.spans;
  noisy_count : l.noisy ≡ noisy_among l.tray l.fn.from.shot (l.shot - l.fn.from.shot);
  few : l.noisy ≤ 256;
  room : length l.spans ≡ 256;
  begins : l.start ≡ start_of l.tray l.shot;
}
