-- The book that d, n and three bodies make. The statements are proved in proofs/.
use Rattle.std.specs.Prelude.{◌≡◌, List, [], ◌∷◌, ◌++◌, ℕ, ◌+◌, ◌/◌, ◌%◌, ◌<◌, length, get_or, Option, Some, None}
use Rattle.modular.specs.Dimension.{listed}
use Rattle.search.specs.Search.{unless}
use Rattle.tableau.specs.Tableau.{sized}
use Rattle.book_body.specs.Body.{length_fits, ReaderAnswer, refused, accepted, refuse_at, read_bodies}
use Rattle.book.specs.Book.{read_book, body_of}

-- Two bytes, low byte first. From 65,536 up the second is no byte; the reader refuses such lengths by 4.
abbrev pub low : ℕ → ℕ
low x = x % 256

abbrev pub high : ℕ → ℕ
high x = x / 256

-- An entry of the table of contents, six bytes: kind, 0, offset, length.
abbrev pub entry_of : (kind offset size : ℕ) → List ℕ
entry_of kind offset size = kind ∷ 0 ∷ low offset ∷ high offset ∷ low size ∷ high size ∷ []

-- Byte 0 is 81, then d, n, 3, and the table of contents of bodies of a, b and c bytes. The first body begins at byte 22, each next
-- one where the last ended.
unfoldable pub head_of : (d n a b c : ℕ) → List ℕ
head_of d n a b c = 81 ∷ d ∷ n ∷ 3 ∷ (entry_of 1 22 a ++ (entry_of 2 (22 + a) b ++ entry_of 3 (22 + a + b) c))

unfoldable pub book_of : ℕ → ℕ → List ℕ → List ℕ → List ℕ → List ℕ
book_of d n ops errors choices = head_of d n (length ops) (length errors) (length choices) ++ (ops ++ (errors ++ choices))

-- 4: the first body whose length is not whole entries, or too many
abbrev pub bad_lengths : (a b c : ℕ) → Option ℕ
bad_lengths a b c =
    unless (length_fits a 4 4096) (Some 0)
    (unless (length_fits b 5 2048) (Some 1)
    (unless (length_fits c 1 4096) (Some 2) None))

-- The answer for d, n and the bodies: 2, 3, then 4 by the bodies' lengths, then 5, 6 and 7.
unfoldable pub read_parts : ℕ → ℕ → List ℕ → List ℕ → List ℕ → ReaderAnswer
read_parts d n ops errors choices =
    unless (listed d) (refused 2 0)
    (unless (sized n) (refused 3 0)
    (refuse_at 4 (bad_lengths (length ops) (length errors) (length choices))
    (read_bodies d n ops errors choices)))

-- It is the reader's answer for the book, for every d and n and any bodies.
abbrev pub ReadsWritten : Type 0
ReadsWritten = (d n : ℕ) (ops errors choices : List ℕ) → read_book (book_of d n ops errors choices) ≡ read_parts d n ops errors choices

-- An accepted one hands the bodies back.
pub record HasBodies (s ops errors choices : List ℕ) : Type 0 where
  pub operations-back : body_of s 1 ≡ ops
  pub errors-back : body_of s 2 ≡ errors
  pub choices-back : body_of s 3 ≡ choices

abbrev pub BodiesBack : Type 0
BodiesBack = (d n : ℕ) (ops errors choices : List ℕ) (o e c : ℕ) → read_book (book_of d n ops errors choices) ≡ accepted d n o e c
    → HasBodies (book_of d n ops errors choices) ops errors choices

-- Every number of the list is a byte. A lent slice has this by its type.
pub record Bytes (s : List ℕ) : Type 0 where
  pub below : (i : ℕ) → i < length s → get_or s i 0 < 256

-- It is the only one: an accepted book of bytes that has these d, n and bodies is that one, byte for byte.
abbrev pub OnlyBook : Type 0
OnlyBook = (d n : ℕ) (ops errors choices s : List ℕ) → Bytes s → (o e c : ℕ) → read_book s ≡ accepted d n o e c
    → HasBodies s ops errors choices → s ≡ book_of d n ops errors choices
