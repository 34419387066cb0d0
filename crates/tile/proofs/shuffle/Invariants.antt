use Rattle.std.proofs.Common.{◌*◌}
use Rattle.tile.specs.Tile.{halved}
use Rattle.tile.proofs.Bytes.{Run}
use Rattle.tile.proofs.shuffle.Given as goal

abbrev pub invariant-loop-i : goal.invariant-loop-i
invariant-loop-i l = Run (halved l.src) 0 (2 * l.i) l.initial.dst l.dst
