-- `book::part_of` meets its contract.
-- Assumes nothing.
use native.Mathlib.Nat.{add-sub_cancel_left}
use borrow.Author.Rules.{rules}
use Rattle.book.proofs.part_of.Statement.{statement}
use Rattle.book.proofs.part_of.Tie as tie

add-word : tie.Need-overflow_add-at
add-word c = search rules

word-requires : tie.Need-word-start-requires
word-requires c κs = search rules

add-word-2 : tie.Need-overflow_add-at-2
add-word-2 c = search rules

word-requires-2 : tie.Need-word-requires
word-requires-2 c κs = search rules

add-end : tie.Need-overflow_add-end
add-end c = search rules

sub-result : tie.Need-slice_bounds-result-count
sub-result c = search rules

part-result-start : tie.Need-slice_bounds-result-start
part-result-start c = search rules

part-result-end : tie.Need-slice_bounds-result-end
part-result-end c = search rules

returns : tie.Need-returns
returns c = rw (add-sub_cancel_left, c.word-start.ensures.0, c.word.ensures.0)

pub part_of_spec : {M : Type 1} → statement M
part_of_spec =
    tie.close
    (tie.spec
    add-word
    word-requires
    add-word-2
    word-requires-2
    add-end
    sub-result
    part-result-start
    part-result-end
    returns)
