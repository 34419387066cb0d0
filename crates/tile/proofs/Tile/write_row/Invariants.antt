use Rattle.std.proofs.Common.{◌*◌}
use Rattle.tile.proofs.Bytes.{Run, result_at}
use Rattle.tile.proofs.Tile.write_row.Given as goal

abbrev pub invariant-loop-l : goal.invariant-loop-l
invariant-loop-l l = Run (result_at l.d l.q l.r l.v) (256 * l.y) l.l l.initial.self.cells l.self.cells
