use Rattle.std.proofs.Common.{◌<◌, ◌*◌, arith, refl}
use Rattle.frame_powers.proofs.Lane.{stored-none, stored_more, stored_is}
use Rattle.frame_powers.proofs.ResetFrameChange.change.Goals as goal

pub returns : goal.returns
returns g c =
    let a = c.args in
    let x : a.self.q < 2 * a.n = omega arith in
    rw c.store.ensures (stored_is (λ k b. refl) (stored_more a.self.q 0 x (stored-none c.requires.inside c.requires.frame.room)))
