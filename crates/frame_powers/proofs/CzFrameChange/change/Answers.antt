use Rattle.std.proofs.Common.{◌<◌, ◌+◌, ◌*◌, arith}
use Rattle.std.proofs.Math.Nat.{add-mod-mod}
use Rattle.modular.proofs.Residue.{rest-less}
use Rattle.operation.specs.Gate.{gate_powers}
use Rattle.frame_powers.proofs.Lane.{frame_in-at, power_below, stored-none, stored_more, stored_is}
use Rattle.frame_powers.proofs.CzFrameChange.change.Goals as goal

pub multiple-gain_c-requires-clause-reduced : goal.multiple-gain_c-requires-clause-reduced
multiple-gain_c-requires-clause-reduced g c = rw c.power.ensures (power_below c.requires.frame _ (omega arith))

pub multiple-gain_t-requires-clause-reduced : goal.multiple-gain_t-requires-clause-reduced
multiple-gain_t-requires-clause-reduced g c = rw c.power-2.ensures (power_below c.requires.frame _ (omega arith))

pub add-b-requires : goal.add-b-requires
add-b-requires g c = (omega arith, rw c.power-3.ensures (power_below c.requires.frame _ (omega arith)), rest-less _ (omega arith) c.multiple-gain_c.ensures)

pub add-z-requires : goal.add-z-requires
add-z-requires g c = (omega arith, rw c.power-4.ensures (power_below c.requires.frame _ (omega arith)), rest-less _ (omega arith) c.multiple-gain_t.ensures)

pub returns : goal.returns
unfolding gate_powers
returns g c =
    let a = c.args in
    let p = a.self in
    let xc : p.c < 2 * a.n = omega arith in
    let xt : p.t < 2 * a.n = omega arith in
    let zc : a.n + p.c < 2 * a.n = omega arith in
    let zt : a.n + p.t < 2 * a.n = omega arith in
    rw (c.store-2.ensures, c.store.ensures)
    (stored_is
    (λ k b.
    let kxc : p.c < k = omega arith in
    let kxt : p.t < k = omega arith in
    let kzc : a.n + p.c < k = omega arith in
    let kzt : a.n + p.t < k = omega arith in
    simp (frame_in-at, c.add-z.ensures, c.multiple-gain_t.ensures, c.add-b.ensures, c.multiple-gain_c.ensures, c.power.ensures, c.power-2.ensures, c.power-3.ensures, c.power-4.ensures, add-mod-mod))
    (stored_more (a.n + p.t) _ zt (stored_more (a.n + p.c) _ zc (stored-none c.requires.inside c.requires.frame.room))))
