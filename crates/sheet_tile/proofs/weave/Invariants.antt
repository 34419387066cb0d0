use Rattle.std.proofs.Common.{◌*◌}
use Rattle.tile.proofs.Bytes.{Run}
use Rattle.sheet_tile.proofs.Rows.{woven_bytes}
use Rattle.sheet_tile.proofs.weave.Given as goal

abbrev pub invariant-loop-i : goal.invariant-loop-i
invariant-loop-i l = Run (woven_bytes l.transposed l.l) (2 * l.j) (2 * l.i) l.initial.row l.row
