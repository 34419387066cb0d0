-- The writer: what it returns, and what it leaves in the lent buffer. The statements are proved in proofs/.
use Rattle.std.specs.Prelude.{◌≡◌, List, ◌++◌, ℕ, ◌+◌, ◌/◌, ◌≤◌, leb, length, take, drop}
use Rattle.search.specs.Search.{unless}
use Rattle.book_body.specs.Body.{ReaderAnswer, refused, accepted}
use Rattle.book.specs.Book.{read_book, body_of}
use Rattle.written_book.specs.Written.{book_of, HasBodies, Bytes}

pub record WriteLeft : Type 0 where
  pub number : ℕ
  pub place : ℕ
  pub out : List ℕ

-- the buffer with s as its first bytes; bytes past them are kept
abbrev pub overwritten : (s out : List ℕ) → List ℕ
overwritten s out = s ++ drop (length s) out

-- 8: the buffer is shorter than the book. Success returns 0 and the number of bytes written.
unfoldable pub write_by_answer : (s out : List ℕ) → ReaderAnswer → WriteLeft
write_by_answer s out (refused number place) = record { number = number; place = place; out = out }
write_by_answer s out (accepted d n operations errors choices) =
    unless (leb (length s) (length out)) (record { number = 8; place = 0; out = out })
    (record { number = 0; place = length s; out = overwritten s out })

-- The writer takes three bodies with d and n. It refuses what the reader would refuse, with that number and place, and after that
-- a short buffer by 8.
unfoldable pub write_book : ℕ → ℕ → (ops errors choices out : List ℕ) → WriteLeft
write_book d n ops errors choices out =
    write_by_answer (book_of d n ops errors choices) out (read_book (book_of d n ops errors choices))

-- Each accepted book comes out byte for byte when its own three bodies are written again.
abbrev pub Rewritten : Type 0
Rewritten = (s : List ℕ) → Bytes s → (d n o e c : ℕ) → read_book s ≡ accepted d n o e c
    → (out : List ℕ) → length s ≤ length out
    → write_book d n (body_of s 1) (body_of s 2) (body_of s 3) out ≡ record { number = 0; place = length s; out = overwritten s out }

-- The buffer is filled with the only book that the reader accepts for d, n and the bodies. What was written, 22 bytes and the
-- bodies, is a book of bytes if the bodies are, is accepted and hands them back; any book of bytes that is accepted with d and n
-- and has these bodies is it; and no byte past it changed.
pub record BookFilled (d n : ℕ) (ops errors choices out : List ℕ) (left : WriteLeft) : Type 0 where
  pub size : left.place ≡ 22 + length ops + length errors + length choices
  pub bytes : Bytes ops → Bytes errors → Bytes choices → Bytes (take left.place left.out)
  pub accepts : read_book (take left.place left.out) ≡ accepted d n (length ops / 4) (length errors / 5) (length choices)
  pub back : HasBodies (take left.place left.out) ops errors choices
  pub only : (s : List ℕ) → Bytes s → (o e c : ℕ) → read_book s ≡ accepted d n o e c → HasBodies s ops errors choices → s ≡ take left.place left.out
  pub kept : drop left.place left.out ≡ drop left.place out

abbrev pub FillsOnlyBook : Type 0
FillsOnlyBook = (d n : ℕ) (ops errors choices out : List ℕ) → (write_book d n ops errors choices out).number ≡ 0
    → BookFilled d n ops errors choices out (write_book d n ops errors choices out)
