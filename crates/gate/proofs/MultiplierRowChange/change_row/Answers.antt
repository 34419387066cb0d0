-- The two powers are products, with u and with 1/u, and the phase gains nothing.
use Rattle.std.proofs.Common.{refl, arith}
use native.Mathlib.Nat.{mul_comm, le_of_lt}
use Rattle.modular.proofs.Powers.{power-less}
use Rattle.modular.proofs.Listed.{inverse-below}
use Rattle.operation.specs.Gate.{gate_powers, gate_phase}
use Rattle.operation.proofs.Operands.{single-facts}
use Rattle.operation.proofs.Gate.{plain}
use Rattle.gate.proofs.MultiplierRowChange.change_row.Goals as goal

pub product-b-requires-clause-x_within : goal.product-b-requires-clause-x_within
product-b-requires-clause-x_within c =
    let a = c.args in
    let h = c.requires.can_change in
    let f = single-facts a.tables.now.d a.n a.self.q a.self.u h.0 in
    rw (h.1, inverse-below a.tables.now.d a.self.u f.2) (le_of_lt (power-less _ _ _ (omega (arith, a.tables.now.low))))

pub product-b-requires-clause-y_below : goal.product-b-requires-clause-y_below
product-b-requires-clause-y_below c =
    let f = single-facts c.args.tables.now.d c.args.n c.args.self.q c.args.self.u c.requires.can_change.0 in
    c.requires.row.below _ (omega arith)

pub returns : goal.returns
unfolding gate_powers gate_phase
returns c =
    let a = c.args in
    let h = c.requires.can_change in
    rw (plain _ _ _ _ h.0 c.requires.row refl)
    (rw (c.product-b.ensures, c.product-a.ensures, mul_comm a.self.u, mul_comm a.self.f, h.1))
