-- The reader finds the bodies of a written book where they were laid, and judges it by its parts.
-- Assumes nothing.
use mathlib.Core.Path.{◌≡◌, refl, sym, ◌∙◌}
use mathlib.Core.Bool.{true}
use mathlib.Core.List.{List, ◌++◌}
use Prim.Native.Nat.{ℕ, ◌+◌, ◌*◌}
use native.Mathlib.Nat.{div-add-mod}
use native.Mathlib.Omega.{arith}
use lib.ListN.{length, drop, length-append}
use lib.Seq.{take_at, drop_at, take-length, drop-drop}
use borrow.Author.Tests.{le-leb, eq-eqb}
use Rattle.book_body.specs.Body.{length_fits}
use Rattle.book.specs.Book.{header_fits, operations_entry, errors_entry, choices_entry, offset_of, length_of, end_of, part_of, entry_fits, bad_contents, read_book}
use Rattle.book.proofs.Contents.{by_kind}
use Rattle.written_book.specs.Written.{low, high, head_of, book_of, bad_lengths, read_parts, ReadsWritten, BodiesBack}

-- two bytes back to their number
two_bytes : (x : ℕ) → low x + 256 * high x ≡ x
two_bytes x = omega (arith, div-add-mod x 256)

module _ (d n : ℕ) (ops errors choices : List ℕ) where
  abbrev s : List ℕ
  s = book_of d n ops errors choices

  abbrev a : ℕ
  a = length ops

  abbrev b : ℕ
  b = length errors

  abbrev c : ℕ
  c = length choices

  pub book-length : length s ≡ 22 + a + b + c
  unfolding book_of head_of
  book-length = simp (length-append) (omega arith)

  -- the three entries of the contents
  first : (offset_of s operations_entry ≡ 22) × (length_of s operations_entry ≡ a)
  unfolding book_of head_of
  first = (refl, two_bytes a)

  second : (offset_of s errors_entry ≡ 22 + a) × (length_of s errors_entry ≡ b)
  unfolding book_of head_of
  second = (two_bytes (22 + a), two_bytes b)

  third : (offset_of s choices_entry ≡ 22 + a + b) × (length_of s choices_entry ≡ c)
  unfolding book_of head_of
  third = (two_bytes (22 + a + b), two_bytes c)

  first_fits : entry_fits s operations_entry 1 22 4 4096 ≡ length_fits a 4 4096
  unfolding entry_fits book_of head_of
  first_fits = rw (two_bytes a)

  second_fits_lem : entry_fits s errors_entry 2 (end_of s operations_entry) 5 2048 ≡ length_fits b 5 2048
  unfolding entry_fits book_of head_of
  second_fits_lem = rw (two_bytes a, two_bytes b, two_bytes (22 + a), eq-eqb (22 + a) (22 + a))

  third-fits : entry_fits s choices_entry 3 (end_of s errors_entry) 1 4096 ≡ length_fits c 1 4096
  unfolding entry_fits book_of head_of
  third-fits = rw (two_bytes b, two_bytes c, two_bytes (22 + a), two_bytes (22 + a + b), eq-eqb (22 + a + b) (22 + a + b))

  contents : bad_contents s ≡ bad_lengths a b c
  unfolding bad_contents
  contents = rw (first_fits, second_fits_lem, third-fits, third.0, third.1, eq-eqb (22 + a + b + c) (length s) (sym book-length))

  head-there : header_fits s ≡ true
  unfolding header_fits book_of head_of
  head-there = rw (le-leb 22 (length s) (omega (arith, book-length)))

  rest : drop 22 s ≡ ops ++ (errors ++ choices)
  unfolding book_of head_of
  rest = refl

  first_part : part_of s operations_entry ≡ ops
  first_part = rw (first.0, first.1, rest) (take_at ops (errors ++ choices) a refl)

  second-part : part_of s errors_entry ≡ errors
  second-part =
      rw (second.0, second.1, ← drop-drop a 22 s, rest, drop_at ops (errors ++ choices) a refl) (take_at errors choices b refl)

  third-part : part_of s choices_entry ≡ choices
  third-part =
      rw (
        third.0,
        third.1,
        ← drop-drop b (22 + a) s,
        ← drop-drop a 22 s,
        rest,
        drop_at ops (errors ++ choices) a refl,
        drop_at errors choices b refl,
      )
      (take-length choices)

pub reads-written : ReadsWritten
unfolding read_book read_parts book_of head_of
reads-written d n ops errors choices =
    rw (
      head-there d n ops errors choices,
      contents d n ops errors choices,
      first_part d n ops errors choices,
      second-part d n ops errors choices,
      third-part d n ops errors choices,
    )

pub bodies-back : BodiesBack
bodies-back d n ops errors choices o e c h =
    record {
      operations-back = by_kind _ 1 h ∙ first_part d n ops errors choices;
      errors-back = by_kind _ 2 h ∙ second-part d n ops errors choices;
      choices-back = by_kind _ 3 h ∙ third-part d n ops errors choices;
    }
