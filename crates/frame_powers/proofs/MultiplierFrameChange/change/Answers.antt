use Rattle.std.proofs.Common.{◌<◌, ◌+◌, ◌*◌, arith}
use Rattle.operation.specs.Gate.{gate_powers}
use Rattle.frame_powers.proofs.Lane.{frame_in-at, power_below, stored-none, stored_more, stored_is}
use Rattle.frame_powers.proofs.MultiplierFrameChange.change.Goals as goal

pub mul-a-requires-clause-left : goal.mul-a-requires-clause-left
mul-a-requires-clause-left g c = rw c.power.ensures (power_below c.requires.frame _ (omega arith))

pub mul-b-requires-clause-left : goal.mul-b-requires-clause-left
mul-b-requires-clause-left g c = rw c.power-2.ensures (power_below c.requires.frame _ (omega arith))

pub returns : goal.returns
unfolding gate_powers
returns g c =
    let a = c.args in
    let q = a.self.q in
    let x : q < 2 * a.n = omega arith in
    let z : a.n + q < 2 * a.n = omega arith in
    rw (c.store-2.ensures, c.store.ensures)
    (stored_is
    (λ k b. let kx : q < k = omega arith in let kz : a.n + q < k = omega arith in simp (frame_in-at, ← c.requires.operands.1.inverts, c.mul-b.ensures, c.mul-a.ensures, c.power.ensures, c.power-2.ensures))
    (stored_more (a.n + q) _ z (stored_more q _ x (stored-none c.requires.inside c.requires.frame.room))))
