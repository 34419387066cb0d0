use Rattle.row.proofs.Laws.{powers_of}
use Rattle.tableau.proofs.Parts.{tableau-row}
use Rattle.tableau.proofs.pairing_at.Goals as goal

pub pairing-requires-clause-left : goal.pairing-requires-clause-left
pairing-requires-clause-left c = rw c.row.ensures.value (powers_of (tableau-row _ _ _ c.requires.rows c.args.i c.requires.first))

pub pairing-requires-clause-right : goal.pairing-requires-clause-right
pairing-requires-clause-right c = rw c.row-2.ensures.value (powers_of (tableau-row _ _ _ c.requires.rows c.args.j c.requires.second))
