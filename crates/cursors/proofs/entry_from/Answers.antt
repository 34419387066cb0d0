-- The first that is not passed begins all that are left.
use Rattle.std.proofs.Common.{◌≡◌, arith}
use Rattle.cursors.proofs.Cursors.{spent-none, spent-more, first-left, first-none}
use Rattle.cursors.proofs.entry_from.Goals as goal

pub loop-j-init : goal.loop-j-init
loop-j-init c = spent-none

pub returns-then-e-k : goal.returns-then-e-k
returns-then-e-k c =
    first-left c.requires c.loop-j.invariant (omega arith) (rw c.error-e.ensures at c.if-e-k.true)

pub loop-j-preserved : goal.loop-j-preserved
loop-j-preserved c = spent-more c.loop-j.invariant (rw c.error-e.ensures at c.if-e-k.false)

pub returns : goal.returns
returns c =
    let all : c.error_count-count.result ≡ c.loop-j.j = omega arith in
    rw all (first-none c.loop-j.invariant (omega arith))
