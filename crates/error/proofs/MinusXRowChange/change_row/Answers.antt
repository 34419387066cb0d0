-- The gain r·b is what an error with p = −r adds.
use Rattle.std.proofs.Common.{arith}
use Rattle.row.specs.Row.{x_of, z_of, phase_of}
use Rattle.operation.specs.Error.{error_row}
use Rattle.error.proofs.Gain.{gain-minus}
use Rattle.error.proofs.MinusXRowChange.change_row.Goals as goal

pub returns : goal.returns
unfolding error_row
returns c =
    let a = c.args in
    rw (
      c.sum.ensures,
      c.product-z.ensures,
      gain-minus a.tables.now.d (phase_of a.n a.v.now) (x_of a.v.now a.self.q) a.self.r (z_of a.n a.v.now a.self.q) (omega arith) c.requires.can_change.1,
    )
