use Rattle.std.proofs.Common.{◌<◌, ◌+◌, ◌*◌, arith}
use Rattle.std.proofs.Math.Nat.{add-mod-mod}
use Rattle.modular.proofs.Residue.{rest-less}
use Rattle.operation.specs.Gate.{gate_powers}
use Rattle.frame_powers.proofs.Lane.{frame_in-at, power_below, stored-none, stored_more, stored_is}
use Rattle.frame_powers.proofs.PhaseGateFrameChange.change.Goals as goal

pub multiple-requires-clause-reduced : goal.multiple-requires-clause-reduced
multiple-requires-clause-reduced g c = rw c.power-a.ensures (power_below c.requires.frame _ (omega arith))

pub add-requires : goal.add-requires
add-requires g c =
    (omega arith, rw c.power-b.ensures (power_below c.requires.frame _ (omega arith)), rest-less _ (omega arith) c.multiple.ensures)

pub returns : goal.returns
unfolding gate_powers
returns g c =
    let a = c.args in
    let q = a.self.q in
    let x : q < 2 * a.n = omega arith in
    let z : a.n + q < 2 * a.n = omega arith in
    rw c.store.ensures
    (stored_is (λ k b. let x' : q < k = omega arith in let z' : a.n + q < k = omega arith in simp (frame_in-at, c.add.ensures, c.multiple.ensures, c.power-a.ensures, c.power-b.ensures, add-mod-mod))
    (stored_more (a.n + q) _ z (stored-none c.requires.inside c.requires.frame.room)))
