use Rattle.std.proofs.Common.{◌≡◌, ℕ, ◌<◌, ◌&&◌, ltb, rules, arith, tests, add-one}
use Rattle.std.proofs.Math.Seq.{get_or-take, length-take-le}
use Rattle.std.specs.Ordering.{ord_max, nat_cmp}
use Rattle.search.specs.Search.{all}
use Rattle.validity_test.proofs.bytes_below.Goals as goal

-- the larger of two numbers is below d exactly if both are
max-below : (x y d : ℕ) → ltb (ord_max nat_cmp x y) d ≡ ltb x d && ltb y d
max-below x y d = grind arith

pub loop-b-init : goal.loop-b-init
unfolding all
loop-b-init c = search (rules, tests)

pub loop-b-preserved : goal.loop-b-preserved
unfolding all
loop-b-preserved c =
    let l = c.loop-b in
    let a = c.args in
    let h : l.b-index < a.count = omega (arith, length-take-le a.count a.t.now c.requires.room) in
    rw (add-one l.b-index, c.max-most.ensures, ← l.invariant, get_or-take a.count a.t.now l.b-index 0 h) (max-below _ _ a.d)
