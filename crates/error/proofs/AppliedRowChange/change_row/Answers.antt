-- The gain is the sum of two products that were reduced before.
use Rattle.std.proofs.Common.{◌*◌, arith}
use Rattle.row.specs.Row.{x_of, z_of, phase_of}
use Rattle.operation.specs.Error.{error_row}
use Rattle.operation.proofs.Operands.{error-facts}
use Rattle.error.proofs.Gain.{gain}
use Rattle.error.proofs.AppliedRowChange.change_row.Goals as goal

pub returns : goal.returns
unfolding error_row
returns c =
    let a = c.args in
    let e = a.self.0 in
    let f = error-facts a.tables.now.d a.n e c.requires.can_change in
    rw (
      c.sum_of_three.ensures,
      c.product-x.ensures,
      c.product-z.ensures,
      gain a.tables.now.d (phase_of a.n a.v.now) (e.s * x_of a.v.now e.qudit) e.p (z_of a.n a.v.now e.qudit) (omega arith) (omega arith),
    )
