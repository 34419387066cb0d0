-- `book::entry_fits` meets its contract.
-- Assumes nothing.
use borrow.Author.Rules.{rules}
use Rattle.book.specs.Book.{entry_fits}
use Rattle.book.proofs.entry_fits.Statement.{statement}
use Rattle.book.proofs.entry_fits.Tie as tie

add-word : tie.Need-overflow_add-at
add-word c = search rules

word-requires : tie.Need-word-offset-requires
word-requires c κs = search rules

add-word-2 : tie.Need-overflow_add-at-2
add-word-2 c = search rules

word-requires-2 : tie.Need-word-length-requires
word-requires-2 c κs = search rules

shared-slice-read-result : tie.Need-bounds-book-at
shared-slice-read-result c = search rules

add-result : tie.Need-overflow_add-result
add-result c = search rules

shared-slice-read-result-2 : tie.Need-bounds-book-at-2
shared-slice-read-result-2 c = search rules

length-fits-requires : tie.Need-length_fits-requires
length-fits-requires c κs = search rules

returns : tie.Need-returns
unfolding entry_fits
returns c = cc

pub entry_fits_spec : {M : Type 1} → statement M
entry_fits_spec =
    tie.close
    (tie.spec
    add-word
    word-requires
    add-word-2
    word-requires-2
    shared-slice-read-result
    add-result
    shared-slice-read-result-2
    length-fits-requires
    returns)
