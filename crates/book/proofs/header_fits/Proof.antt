-- `book::header_fits` meets its contract.
-- Assumes nothing.
use borrow.Author.Tests.{le-leb, lt-leb}
use borrow.Author.Rules.{rules}
use Rattle.book.specs.Book.{header_fits}
use Rattle.book.proofs.header_fits.Statement.{statement}
use Rattle.book.proofs.header_fits.Tie as tie

returns : tie.Need-returns-then-book-lt22
unfolding header_fits
returns c = rw (lt-leb _ _ c.if-book-lt22.true)

shared-slice-read-result : tie.Need-bounds-book-0
shared-slice-read-result c = search rules

shared-slice-read-result-2 : tie.Need-bounds-book-3
shared-slice-read-result-2 c = search rules

returns-2 : tie.Need-returns
unfolding header_fits
returns-2 c = rw (le-leb _ _ c.if-book-lt22.false)

pub header_fits_spec : {M : Type 1} → statement M
header_fits_spec =
    tie.close (tie.spec
    returns
    shared-slice-read-result
    shared-slice-read-result-2
    returns-2)
