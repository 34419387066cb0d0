-- The first stabilizer with an X power on q is the pivot.
use Rattle.std.proofs.Common.{◌≡◌, ◌<◌, ◌+◌, ◌*◌, refl, sym, arith, eq-eqb, ne_eqb}
use Rattle.search.specs.Search.{first_not}
use Rattle.search.proofs.Search.{none_yet, found}
use Rattle.tableau.proofs.Parts.{row_at}
use Rattle.measurement.specs.Look.{pivot_of}
use Rattle.measurement_look.proofs.pivot_of.Goals as goal

pub loop-k-init : goal.loop-k-init
unfolding first_not
loop-k-init c = refl

pub returns-then-t-at-ne0 : goal.returns-then-t-at-ne0
unfolding pivot_of
returns-then-t-at-ne0 c =
    let inside : c.args.q < 2 * c.args.n + 1 = omega arith in
    found _ _ c.loop-k.k c.loop-k-test.true c.loop-k.invariant (rw row_at (ne_eqb _ _ c.if-t-at-ne0.true))

pub loop-k-preserved : goal.loop-k-preserved
loop-k-preserved c =
    let inside : c.args.q < 2 * c.args.n + 1 = omega arith in
    none_yet _ c.loop-k.k c.loop-k.invariant (rw row_at (eq-eqb _ _ c.if-t-at-ne0.false))

pub returns : goal.returns
unfolding pivot_of
returns c =
    let all : c.loop-k.k ≡ c.args.n = omega arith in
    sym (rw all at c.loop-k.invariant)
