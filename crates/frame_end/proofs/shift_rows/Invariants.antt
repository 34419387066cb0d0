-- The rows below i are shifted and their shifts written, and from row i on all is as it was.
use Rattle.std.proofs.Common.{◌≡◌, ◌+◌, ◌*◌}
use Rattle.row.proofs.Fill.{Filled}
use Rattle.tableau.specs.Tableau.{each_row, every}
use Rattle.runs.specs.Frame.{shift_at, shift_row}
use Rattle.frame_end.proofs.shift_rows.Given as goal

abbrev pub invariant-loop-i : goal.invariant-loop-i
invariant-loop-i l =
    (l.t ≡ each_row (every (shift_row l.m.d l.n l.frame)) (2 * l.n + 1) l.initial.t l.i)
    × Filled (shift_at l.m.d l.n l.frame l.initial.t) l.initial.shifts l.i l.shifts
