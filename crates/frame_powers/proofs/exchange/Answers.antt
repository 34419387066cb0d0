use Rattle.std.proofs.Common.{◌≡◌, ◌<◌, ℕ, ◌+◌, ◌*◌, arith}
use Rattle.operation.specs.Gate.{gate_powers}
use Rattle.frame_powers.specs.Lane.{frame_in}
use Rattle.frame_powers.proofs.Lane.{frame_in-at, stored-none, stored_more, stored_is}
use Rattle.frame_powers.proofs.exchange.Goals as goal
use Rattle.std.proofs.Common.{List, set, ap, ◌≢◌}
use Rattle.std.proofs.Math.Seq.{set_comm}
use Rattle.row.specs.Row.{x_of, z_of}
use Rattle.operation.specs.declared.Operation.TheVariants.{Swap}

-- the definition writes both powers of c first
exchanged : (d n c t : ℕ) (v : List ℕ) → t ≢ n + c
    → set (set (set (set v c (x_of v t)) t (x_of v c)) (n + c) (z_of n v t)) (n + t) (z_of n v c) ≡ gate_powers d n (Swap c t) v
unfolding gate_powers
exchanged d n c t v h = ap (λ w. set w (n + t) (z_of n v c)) (set_comm (set v c (x_of v t)) t (n + c) (x_of v c) (z_of n v t) h)

pub returns : goal.returns
returns g c =
    let a = c.args in
    let xc : a.c < 2 * a.n = omega arith in
    let xt : a.t < 2 * a.n = omega arith in
    let zc : a.n + a.c < 2 * a.n = omega arith in
    let zt : a.n + a.t < 2 * a.n = omega arith in
    λ d. rw (c.store-4.ensures, c.store-3.ensures, c.store-2.ensures, c.store.ensures)
    (stored_is
    (λ k b.
    let kxc : a.c < k = omega arith in
    let kxt : a.t < k = omega arith in
    let kzc : a.n + a.c < k = omega arith in
    let kzt : a.n + a.t < k = omega arith in
    simp (← exchanged d a.n a.c a.t (frame_in g.row.LANES k a.v.now a.l) (λ e. omega arith), frame_in-at, c.power-a.ensures, c.power-x.ensures, c.power-b.ensures, c.power-z.ensures))
    (stored_more (a.n + a.t) _ zt (stored_more (a.n + a.c) _ zc (stored_more a.t _ xt (stored_more a.c _ xc (stored-none c.requires.inside c.requires.room))))))
