-- What holds of each refusal by 1 to 7, and of what is accepted, holds of what the reader tells.
-- Assumes nothing.
use mathlib.Core.List.{List}
use Prim.Native.Nat.{ℕ}
use Rattle.modular.specs.Dimension.{listed}
use Rattle.search.proofs.Search.{unless_cases}
use Rattle.tableau.specs.Tableau.{sized}
use Rattle.book_body.specs.Body.{ReaderAnswer, refused, accepted}
use Rattle.book_body.proofs.Answers.{at_cases, bodies_cases}
use Rattle.book.specs.Book.{header_fits, dimension_of, qudits_of, operations_entry, errors_entry, choices_entry, part_of, bad_contents, read_book}

pub read_cases : (P : ReaderAnswer → Type 0) → P (refused 1 0) → P (refused 2 0) → P (refused 3 0) → ((k : ℕ) → P (refused 4 k)) → ((k : ℕ) → P (refused 5 k))
    → ((k : ℕ) → P (refused 6 k)) → ((k : ℕ) → P (refused 7 k)) → ((d n o e c : ℕ) → P (accepted d n o e c)) → (s : List ℕ) → P (read_book s)
unfolding read_book
read_cases P one two three four five six seven good s =
    unless_cases P (header_fits s) (λ _. one)
    (λ _.
    unless_cases P (listed (dimension_of s)) (λ _. two)
    (λ _.
    unless_cases P (sized (qudits_of s)) (λ _. three)
    (λ _.
    at_cases P 4 (bad_contents s) four
    (bodies_cases P (dimension_of s) (qudits_of s) (part_of s operations_entry) (part_of s errors_entry) (part_of s choices_entry) five six seven (good _ _ _ _ _)))))
