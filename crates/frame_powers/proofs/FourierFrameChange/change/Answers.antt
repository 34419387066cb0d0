use Rattle.std.proofs.Common.{◌<◌, ◌+◌, ◌*◌, arith}
use Rattle.operation.specs.Gate.{gate_powers}
use Rattle.frame_powers.proofs.Lane.{frame_in-at, power_below, stored-none, stored_more, stored_is}
use Rattle.frame_powers.proofs.FourierFrameChange.change.Goals as goal

pub fourier_x-requires : goal.fourier_x-requires
fourier_x-requires g c =
    let b = power_below c.requires.frame in
    rw (c.power-a.ensures, c.power-b.ensures) (b _ (omega arith), b _ (omega arith))

pub fourier_z-requires : goal.fourier_z-requires
fourier_z-requires g c =
    let b = power_below c.requires.frame in
    rw (c.power-a.ensures, c.power-b.ensures) (b _ (omega arith), b _ (omega arith))

pub returns : goal.returns
unfolding gate_powers
returns g c =
    let a = c.args in
    let q = a.self.q in
    let x : q < 2 * a.n = omega arith in
    let z : a.n + q < 2 * a.n = omega arith in
    rw (c.store-2.ensures, c.store.ensures)
    (stored_is
    (λ k b. let x' : q < k = omega arith in let z' : a.n + q < k = omega arith in simp (frame_in-at, c.fourier_z.ensures, c.fourier_x.ensures, c.power-a.ensures, c.power-b.ensures))
    (stored_more (a.n + q) _ z (stored_more q _ x (stored-none c.requires.inside c.requires.frame.room))))
