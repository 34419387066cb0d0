-- What the writer tells of d, n and the bodies, what it leaves, and that an accepted book is written again byte for byte.
-- Assumes nothing.
use Rattle.std.proofs.Common.{Option}
use mathlib.Core.Path.{◌≡◌, refl, sym, ◌∙◌}
use mathlib.Core.List.{List}
use Prim.Native.Nat.{ℕ, ◌/◌, ◌<◌}
use native.Mathlib.Omega.{arith}
use lib.Dec.{leb}
use lib.ListN.{length, drop}
use lib.Seq.{take_at, drop_at}
use borrow.Author.Tests.{le-leb}
use Rattle.modular.specs.Dimension.{listed}
use Rattle.search.proofs.Search.{unless_cases}
use Rattle.tableau.specs.Tableau.{sized}
use Rattle.book_body.specs.Body.{length_fits, ReaderAnswer, accepted, refuse_at, read_bodies}
use Rattle.book_body.proofs.Answers.{bodies_cases}
use Rattle.book.specs.Book.{read_book}
use Rattle.written_book.specs.Written.{book_of, read_parts}
use Rattle.written_book.specs.Writer.{WriteLeft, overwritten, write_by_answer, write_book, Rewritten, BookFilled, FillsOnlyBook}
use Rattle.written_book.proofs.Read.{book-length, reads-written, bodies-back}
use Rattle.written_book.proofs.Parts.{parts-passed, book-bytes}
use Rattle.written_book.proofs.Only.{from-own-bodies, only-book}

pub rewritten : Rewritten
unfolding write_book write_by_answer
rewritten s bytes d n o e c reads out room = rw (← from-own-bodies s bytes reads, reads, le-leb (length s) (length out) room)

module _ (d n : ℕ) (ops errors choices : List ℕ) where
  abbrev s : List ℕ
  s = book_of d n ops errors choices

  abbrev Accepts : Type 0
  Accepts = read_book s ≡ accepted d n (length ops / 4) (length errors / 5) (length choices)

  -- What holds of each of the writer's answers, 2 to 7, 8 and success, holds of what it leaves. Its 4 names a body.
  module _ (out : List ℕ) (P : WriteLeft → Type 0) where
    abbrev OnRefusal : ℕ → ℕ → Type 0
    OnRefusal number place = P (record { number = number; place = place; out = out })

    abbrev OnSuccess : Type 0
    OnSuccess = Accepts → P (record { number = 0; place = length s; out = overwritten s out })

    OnAnswer : ReaderAnswer → Type 0
    OnAnswer x = read_book s ≡ x → P (write_by_answer s out x)

    OnPlace : Option ℕ → Type 0
    OnPlace p = OnAnswer (refuse_at 4 p (read_bodies d n ops errors choices))

    pub write_cases : OnRefusal 2 0 → OnRefusal 3 0 → ((k : ℕ) → k < 3 → OnRefusal 4 k)
        → ((k : ℕ) → OnRefusal 5 k) → ((k : ℕ) → OnRefusal 6 k) → ((k : ℕ) → OnRefusal 7 k)
        → OnRefusal 8 0 → OnSuccess → P (write_book d n ops errors choices out)
    unfolding read_parts write_by_answer write_book OnAnswer OnPlace
    write_cases two three four five six seven eight written =
        let reads = reads-written d n ops errors choices in
        rw reads
        (unless_cases OnAnswer (listed d) (λ _ _. two)
        (λ _.
        unless_cases OnAnswer (sized n) (λ _ _. three)
        (λ _.
        unless_cases OnPlace (length_fits (length ops) 4 4096) (λ _ _. four 0 (omega arith))
        (λ _.
        unless_cases OnPlace (length_fits (length errors) 5 2048) (λ _ _. four 1 (omega arith))
        (λ _.
        unless_cases OnPlace (length_fits (length choices) 1 4096) (λ _ _. four 2 (omega arith))
        (λ _.
        bodies_cases OnAnswer d n ops errors choices (λ k _. five k) (λ k _. six k) (λ k _. seven k)
        (λ h. unless_cases P (leb (length s) (length out)) (λ _. eight) (λ _. written h)))))))
        reads)

  -- what was written is the book, and the rest is kept
  filled : (out : List ℕ) → Accepts → BookFilled d n ops errors choices out (record { number = 0; place = length s; out = overwritten s out })
  filled out h =
      let taken = take_at s (drop (length s) out) (length s) refl in
      record {
        size = book-length d n ops errors choices;
        bytes = λ a b c. rw taken (book-bytes (parts-passed d n ops errors choices (sym (reads-written d n ops errors choices) ∙ h)) a b c);
        accepts = rw taken h;
        back = rw taken (bodies-back d n ops errors choices _ _ _ h);
        only = λ u bytes o e c reads back. rw taken (only-book d n ops errors choices u bytes o e c reads back);
        kept = drop_at s (drop (length s) out) (length s) refl;
      }

pub fills_only-book : FillsOnlyBook
fills_only-book d n ops errors choices out =
    write_cases d n ops errors choices out (λ left. left.number ≡ 0 → BookFilled d n ops errors choices out left)
    (λ e. absurd (omega arith))
    (λ e. absurd (omega arith))
    (λ k l e. absurd (omega arith))
    (λ k e. absurd (omega arith))
    (λ k e. absurd (omega arith))
    (λ k e. absurd (omega arith))
    (λ e. absurd (omega arith))
    (λ h e. filled d n ops errors choices out h)
