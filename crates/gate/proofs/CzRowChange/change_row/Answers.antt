-- The gains may be reduced before they are added.
use Rattle.std.proofs.Common.{arith}
use native.Mathlib.Nat.{add-mod-mod}
use Rattle.modular.proofs.Residue.{rest-less}
use Rattle.operation.specs.Gate.{gate_powers, gate_phase, gate_row}
use Rattle.operation.proofs.Operands.{pair-facts}
use Rattle.gate.proofs.Phases.{add-product}
use Rattle.gate.proofs.CzRowChange.change_row.Goals as goal

pub multiple-requires-clause-below : goal.multiple-requires-clause-below
multiple-requires-clause-below g c =
    let s = c.args.self in
    let f = pair-facts c.args.tables.now.d c.args.n s.0 s.1 (g.K.Times.count s.2) c.requires.can_change in
    c.requires.row.below _ (omega arith)

pub product-requires-clause-y_below : goal.product-requires-clause-y_below
product-requires-clause-y_below g c =
    let s = c.args.self in
    let f = pair-facts c.args.tables.now.d c.args.n s.0 s.1 (g.K.Times.count s.2) c.requires.can_change in
    let a = rest-less _ (omega arith) c.multiple-a.ensures in
    let x = c.requires.row.below s.1 (omega arith) in
    omega arith

pub returns : goal.returns
unfolding gate_row gate_phase gate_powers
returns g c =
    simp (c.sum-r.ensures, c.product.ensures, c.sum-z.ensures, c.sum-b.ensures, c.multiple.ensures, c.multiple-a.ensures, add-mod-mod, add-product)
