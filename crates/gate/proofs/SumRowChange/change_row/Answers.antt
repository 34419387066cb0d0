-- The two stores are made in the other order, the gains may be reduced before they are added, and the phase gains nothing.
use Rattle.std.proofs.Common.{refl, ◌∙◌, ◌+◌, arith}
use native.Mathlib.Nat.{mod-mod, add-mod-mod}
use lib.Seq.{set_comm}
use Rattle.operation.specs.Gate.{gate_powers, gate_phase}
use Rattle.operation.proofs.Operands.{pair-facts}
use Rattle.operation.proofs.Gate.{plain}
use Rattle.gate.proofs.SumRowChange.change_row.Goals as goal

pub sum-x-requires-clause-x_below : goal.sum-x-requires-clause-x_below
sum-x-requires-clause-x_below g c =
    let s = c.args.self in
    let f = pair-facts c.args.tables.now.d c.args.n s.0 s.1 (g.K.Times.count s.2) c.requires.can_change in
    c.requires.row.below _ (omega arith)

pub returns : goal.returns
unfolding gate_powers gate_phase
returns g c =
    let a = c.args in
    let s = a.self in
    let f = pair-facts a.tables.now.d a.n s.0 s.1 _ c.requires.can_change in
    rw (plain _ _ _ _ c.requires.can_change c.requires.row refl)
    (set_comm a.v.now s.1 (a.n + s.0) c.sum-x.result c.difference-z.result (λ e. omega arith)
    ∙ simp (c.difference-z.ensures, c.multiple-2.ensures, c.sum-x.ensures, c.multiple.ensures, mod-mod, add-mod-mod))
