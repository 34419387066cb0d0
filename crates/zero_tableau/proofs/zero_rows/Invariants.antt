-- The rows below i are laid.
use Rattle.std.proofs.Common.{◌≡◌, ◌+◌, ◌*◌}
use Rattle.tableau.specs.Tableau.{each_row}
use Rattle.zero_tableau.specs.ZeroTableau.{zero_row}
use Rattle.zero_tableau.proofs.zero_rows.Given as goal

abbrev pub invariant-loop-i : goal.invariant-loop-i
invariant-loop-i l = l.t ≡ each_row (zero_row l.n) (2 * l.n + 1) l.initial.t l.i
