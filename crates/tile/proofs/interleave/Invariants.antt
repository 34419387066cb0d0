use Rattle.std.proofs.Common.{◌+◌, ◌*◌}
use Rattle.tile.proofs.Bytes.{Run, interleaved_bytes}
use Rattle.tile.proofs.interleave.Given as goal

abbrev pub invariant-loop-i : goal.invariant-loop-i
invariant-loop-i l = Run (interleaved_bytes l.transposed l.marks l.l) (1 + 2 * l.j) (2 * l.i) l.initial.row l.row
