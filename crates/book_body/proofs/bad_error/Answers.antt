-- The first entry that does not fit behind the last one is the first bad one.
use Rattle.std.proofs.Common.{refl, sym, ap, ◌∙◌, add-one, arith, le_antisymm}
use Rattle.operation.specs.declared.WeylError.{WeylError}
use Rattle.search.specs.Search.{first_not}
use Rattle.search.proofs.Search.{none_yet, found}
use Rattle.book_body.specs.Body.{good_error, bad_error}
use Rattle.book_body.proofs.bad_error.Goals as goal

pub loop-k-init : goal.loop-k-init
unfolding first_not
loop-k-init c = record { last = refl; good = refl }

pub returns-then-not-error_fits : goal.returns-then-not-error_fits
unfolding bad_error good_error
returns-then-not-error_fits c =
    found _ _ _ c.loop-k-test.true c.loop-k.invariant.good
    (rw (← c.loop-k.invariant.last, ← c.error_at-e.ensures) (sym c.error_fits.ensures ∙ c.if-not-error_fits.true))

pub loop-k-preserved : goal.loop-k-preserved
unfolding good_error
loop-k-preserved c = record {
  last = rw (add-one c.loop-k.k) (ap (λ (e : WeylError). e.place) c.error_at-e.ensures);
  good = none_yet _ _ c.loop-k.invariant.good
      (rw (← c.loop-k.invariant.last, ← c.error_at-e.ensures) (sym c.error_fits.ensures ∙ c.if-not-error_fits.false));
}

pub returns : goal.returns
unfolding bad_error
returns c = sym c.loop-k.invariant.good ∙ ap (first_not _) (le_antisymm (omega arith) c.loop-k-test.false)
