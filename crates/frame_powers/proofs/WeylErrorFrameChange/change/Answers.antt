use Rattle.std.proofs.Common.{◌<◌, ◌+◌, ◌*◌, arith}
use Rattle.operation.specs.Error.{error_frame}
use Rattle.frame_powers.proofs.Lane.{frame_in-at, power_below, stored-none, stored_more, stored_is}
use Rattle.frame_powers.proofs.WeylErrorFrameChange.change.Goals as goal

pub add-x-requires : goal.add-x-requires
add-x-requires g c = (omega arith, rw c.power.ensures (power_below c.requires.frame _ (omega arith)), omega arith)

pub add-z-requires : goal.add-z-requires
add-z-requires g c = (omega arith, rw c.power-2.ensures (power_below c.requires.frame _ (omega arith)), omega arith)

pub returns : goal.returns
unfolding error_frame
returns g c =
    let a = c.args in
    let q = a.self.qudit in
    let x : q < 2 * a.n = omega arith in
    let z : a.n + q < 2 * a.n = omega arith in
    rw (c.store-2.ensures, c.store.ensures)
    (stored_is
    (λ k b. let kx : q < k = omega arith in let kz : a.n + q < k = omega arith in simp (frame_in-at, c.add-z.ensures, c.add-x.ensures, c.power.ensures, c.power-2.ensures))
    (stored_more (a.n + q) _ z (stored_more q _ x (stored-none c.requires.inside c.requires.frame.room))))
