-- The rows below i are done, and from row i on all is as it was.
use Rattle.std.proofs.Common.{◌≡◌, ◌+◌, ◌*◌, drop}
use Rattle.tableau.specs.Tableau.{each_row, every}
use Rattle.row_change.proofs.change_rows.Given as goal

abbrev pub invariant-loop-i : goal.invariant-loop-i
invariant-loop-i g l =
    (l.t ≡ each_row (every (g.C.RowChange.changed l.change l.tables.d l.n)) (2 * l.n + 1) l.initial.t l.i)
    × (drop (l.i * (2 * l.n + 1)) l.t ≡ drop (l.i * (2 * l.n + 1)) l.initial.t)
