use Rattle.std.proofs.Common.{◌<◌, ◌*◌, arith}
use Rattle.frame_powers.proofs.Lane.{frame_in-at, power_below, stored-none, stored_more, stored_is}
use Rattle.frame_powers.proofs.CorrectionFrameChange.change.Goals as goal

pub subtract-requires : goal.subtract-requires
subtract-requires g c = (omega arith, rw c.power-x.ensures (power_below c.requires.frame _ (omega arith)), omega arith)

pub returns : goal.returns
returns g c =
    let a = c.args in
    let q = a.self.q in
    let x : q < 2 * a.n = omega arith in
    rw c.store.ensures
    (stored_is (λ k b. let x' : q < k = omega arith in simp (frame_in-at, c.subtract.ensures, c.power-x.ensures))
    (stored_more q _ x (stored-none c.requires.inside c.requires.frame.room)))
