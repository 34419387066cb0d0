use Rattle.std.proofs.Common.{arith, length-drop}
use Rattle.modular.proofs.Listed.{dimension}
use Rattle.saved_tableau_laws.proofs.Rows.{rows-part}
use Rattle.tableau_calls.proofs.rows_valid.Goals as goal

pub is_valid-requires : goal.is_valid-requires
is_valid-requires c =
    let e = dimension _ c.requires.0 in
    (e.low, e.high, c.requires.1, rw (rows-part c.args.t.now) (omega (arith, length-drop 2 c.args.t.now, c.requires.2)))
