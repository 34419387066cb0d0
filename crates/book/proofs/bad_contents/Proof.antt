-- `book::bad_contents` meets its contract.
-- Assumes nothing.
use mathlib.Core.Path.{◌≡◌, sym, ◌∙◌}
use mathlib.Core.Bool.{true}
use borrow.Author.Tests.{eq-eqb, ne_eqb}
use borrow.Author.Rules.{rules}
use Rattle.book.specs.Book.{operations_entry, errors_entry, choices_entry, bad_contents, entry_fits, end_of}
use Rattle.book.proofs.bad_contents.Statement.{statement}
use Rattle.book.proofs.bad_contents.Tie as tie

-- past each test its entry fits
fits-0 : (c : tie.Else-not-entry_fits) → let s = c.args.book.now in entry_fits s operations_entry 1 22 4 4096 ≡ true
fits-0 c = sym c.entry_fits.ensures ∙ c.if-not-entry_fits.false

fits-1 : (c : tie.Else-not-entry_fits-2) → let s = c.args.book.now in entry_fits s errors_entry 2 (end_of s operations_entry) 5 2048 ≡ true
fits-1 c = rw (← c.end_of.ensures.0) (sym c.entry_fits-2.ensures ∙ c.if-not-entry_fits-2.false)

fits-2 : (c : tie.Else-not-entry_fits-3) → let s = c.args.book.now in entry_fits s choices_entry 3 (end_of s errors_entry) 1 4096 ≡ true
fits-2 c = rw (← c.end_of-2.ensures.0) (sym c.entry_fits-3.ensures ∙ c.if-not-entry_fits-3.false)

entry-fits-requires : tie.Need-entry_fits-requires
entry-fits-requires c κs = search rules

returns : tie.Need-returns-then-not-entry_fits
unfolding bad_contents
returns c = rw (sym c.entry_fits.ensures ∙ c.if-not-entry_fits.true)

end-of-requires : tie.Need-end_of-requires
end-of-requires c κs = search rules

entry-fits-requires-2 : tie.Need-entry_fits-requires-2
entry-fits-requires-2 c κs = search rules

returns-2 : tie.Need-returns-then-not-entry_fits-2
unfolding bad_contents
returns-2 c =
    rw (
      fits-0 c.before.before.before,
      ← c.end_of.ensures.0,
      sym c.entry_fits-2.ensures ∙ c.if-not-entry_fits-2.true,
    )

end-of-requires-2 : tie.Need-end_of-requires-2
end-of-requires-2 c κs = search rules

entry-fits-requires-3 : tie.Need-entry_fits-requires-3
entry-fits-requires-3 c κs = search rules

returns-3 : tie.Need-returns-then-not-entry_fits-3
unfolding bad_contents
returns-3 c =
    rw (
      fits-0 c.before.before.before.before.before.before,
      fits-1 c.before.before.before,
      ← c.end_of-2.ensures.0,
      sym c.entry_fits-3.ensures ∙ c.if-not-entry_fits-3.true,
    )

end-of-requires-3 : tie.Need-end_of-requires-3
end-of-requires-3 c κs = search rules

returns-4 : tie.Need-returns-then-end_of-book
unfolding bad_contents
returns-4 c =
    rw (
      fits-0 c.before.before.before.before.before.before.before.before,
      fits-1 c.before.before.before.before.before,
      fits-2 c.before.before,
      ← c.end_of-3.ensures.0,
      ne_eqb _ _ c.if-end_of-book.true,
    )

returns-5 : tie.Need-returns
unfolding bad_contents
returns-5 c =
    rw (
      fits-0 c.before.before.before.before.before.before.before.before,
      fits-1 c.before.before.before.before.before,
      fits-2 c.before.before,
      ← c.end_of-3.ensures.0,
      eq-eqb _ _ c.if-end_of-book.false,
    )

pub bad_contents_spec : {M : Type 1} → statement M
bad_contents_spec =
    tie.close
    (tie.spec
    entry-fits-requires
    returns
    end-of-requires
    entry-fits-requires-2
    returns-2
    end-of-requires-2
    entry-fits-requires-3
    returns-3
    end-of-requires-3
    returns-4
    returns-5)
