-- Each refusal has a listed number and leaves the buffer unchanged.
-- Assumes nothing.
use mathlib.Core.Path.{◌≡◌, refl}
use mathlib.Core.Logic.{◌≢◌}
use mathlib.Core.Bool.{true}
use lib.Dec.{leb}
use lib.ListN.{length}
use Rattle.modular.specs.Dimension.{among}
use Rattle.search.proofs.Search.{unless_cases}
use Rattle.book.proofs.Answers.{read_cases}
use Rattle.book.specs.Decoded.{ops_in, errors_in}
use Rattle.sheet.specs.Weights.{sheet_bytes}
use Rattle.sheet.specs.SheetBook.{SheetLeft, sheet_by_answer, sheet_book}
use Rattle.sheet_book_laws.specs.Books.{sheet_numbers, SheetListed, SheetUnchanged}

pub sheet-listed : SheetListed
unfolding sheet_book sheet_by_answer
sheet-listed s sheet =
    read_cases (λ x. P (sheet_by_answer s sheet x)) refl refl refl (λ k. refl) (λ k. refl) (λ k. refl) (λ k. refl)
    (λ d n o e c. unless_cases P (leb (sheet_bytes (ops_in s d n) (errors_in s)) (length sheet)) (λ e. refl) (λ e. refl))
    s
  where
    P : SheetLeft → Type 0
    P l = among l.number sheet_numbers ≡ true

pub sheet_unchanged : SheetUnchanged
unfolding sheet_book sheet_by_answer
sheet_unchanged s sheet =
    read_cases (λ x. P (sheet_by_answer s sheet x)) (λ h. refl) (λ h. refl) (λ h. refl) (λ k h. refl) (λ k h. refl) (λ k h. refl) (λ k h. refl)
    (λ d n o e c. unless_cases P (leb (sheet_bytes (ops_in s d n) (errors_in s)) (length sheet)) (λ e h. refl) (λ e h. absurd (h refl)))
    s
  where
    P : SheetLeft → Type 0
    P l = l.number ≢ 0 → l.sheet ≡ sheet
