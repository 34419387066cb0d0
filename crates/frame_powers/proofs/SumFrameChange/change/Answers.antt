use Rattle.std.proofs.Common.{◌<◌, ◌+◌, ◌*◌, arith}
use Rattle.std.proofs.Math.Nat.{mod-mod, add-mod-mod}
use Rattle.modular.proofs.Residue.{rest-less}
use Rattle.operation.specs.Gate.{gate_powers}
use Rattle.frame_powers.proofs.Lane.{frame_in-at, power_below, stored-none, stored_more, stored_is}
use Rattle.frame_powers.proofs.SumFrameChange.change.Goals as goal

pub multiple-gain-requires-clause-reduced : goal.multiple-gain-requires-clause-reduced
multiple-gain-requires-clause-reduced g c = rw c.power.ensures (power_below c.requires.frame _ (omega arith))

pub multiple-loss-requires-clause-reduced : goal.multiple-loss-requires-clause-reduced
multiple-loss-requires-clause-reduced g c = rw c.power-2.ensures (power_below c.requires.frame _ (omega arith))

pub add-x-requires : goal.add-x-requires
add-x-requires g c = (omega arith, rw c.power-3.ensures (power_below c.requires.frame _ (omega arith)), rest-less _ (omega arith) c.multiple-gain.ensures)

pub subtract-z-requires : goal.subtract-z-requires
subtract-z-requires g c = (omega arith, rw c.power-4.ensures (power_below c.requires.frame _ (omega arith)), rest-less _ (omega arith) c.multiple-loss.ensures)

pub returns : goal.returns
unfolding gate_powers
returns g c =
    let a = c.args in
    let p = a.self in
    let xc : p.c < 2 * a.n = omega arith in
    let xt : p.t < 2 * a.n = omega arith in
    let zc : a.n + p.c < 2 * a.n = omega arith in
    let zt : a.n + p.t < 2 * a.n = omega arith in
    rw (c.store-2.ensures, c.store.ensures)
    (stored_is
    (λ k b.
    let kxc : p.c < k = omega arith in
    let kxt : p.t < k = omega arith in
    let kzc : a.n + p.c < k = omega arith in
    let kzt : a.n + p.t < k = omega arith in
    simp (frame_in-at, c.subtract-z.ensures, c.multiple-loss.ensures, c.add-x.ensures, c.multiple-gain.ensures, c.power.ensures, c.power-2.ensures, c.power-3.ensures, c.power-4.ensures, mod-mod, add-mod-mod))
    (stored_more p.t _ xt (stored_more (a.n + p.c) _ zc (stored-none c.requires.inside c.requires.frame.room))))
