-- A pairing is below d.
use Rattle.std.proofs.Common.{◌<◌, ◌*◌, arith}
use native.Mathlib.Nat.{mod-lt}
use Rattle.row.specs.Row.{pairing}
use Rattle.runs.specs.Frame.{shift_row}
use Rattle.frame_end.proofs.shift_row.Goals as goal

pub add-requires : goal.add-requires
unfolding pairing
add-requires c =
    let small : c.pairing-shift.result < c.args.m.d = rw c.pairing-shift.ensures (mod-lt _ (omega arith)) in
    (omega arith, c.requires.row.below (2 * c.args.n) (omega arith), omega arith)

pub returns-clause-added : goal.returns-clause-added
unfolding shift_row
returns-clause-added c = rw (c.add.ensures, c.pairing-shift.ensures)
