-- Books that begin alike are read alike up to there; and an accepted book with other choices, as many and each below d, is accepted
-- with the same numbers and has the same operations and errors.
-- Assumes nothing.
use Rattle.std.proofs.Common.{None}
use mathlib.Core.Path.{◌≡◌, sym, ap, ◌∙◌}
use mathlib.Core.List.{List, ◌++◌}
use Prim.Native.Nat.{ℕ, ◌+◌, ◌/◌, ◌<◌, ◌≤◌}
use native.Mathlib.Omega.{arith}
use lib.ListN.{length, get_or, take, drop, length-append, length-take, length-drop, get_or-append}
use lib.Seq.{length-take-le, take-length, get_or-take, get_or-drop, ext_get_or, take_at, drop_at}
use borrow.Author.Tests.{lt-ltb, eq-eqb}
use Rattle.search.proofs.Search.{none_fails}
use Rattle.book_entries.specs.Entry.{word}
use Rattle.book_body.specs.Body.{choice_takers, good_choice, bad_choice, ReaderAnswer, accepted, read_bodies}
use Rattle.book_body.proofs.Sound.{no_refusal, Sound, all_sound, one_each}
use Rattle.book.specs.Book.{header_fits, dimension_of, qudits_of, operations_entry, errors_entry, choices_entry, offset_of, length_of, end_of, part_of, entry_fits, bad_contents, read_book, body_of}
use Rattle.book.proofs.Contents.{Passed, all-passed, ContentsLaid, laid, part_length, by_kind}
use Rattle.book.proofs.Meaning.{accepted-means}

-- two books of one length, alike in their first m bytes
record Begin (m : ℕ) (s u : List ℕ) : Type 0 where
  pub len : length u ≡ length s
  pub bytes : (i : ℕ) → i < m → get_or u i 0 ≡ get_or s i 0

module _ {m : ℕ} {s u : List ℕ} (same : Begin m s u) where
  word_same : (at : ℕ) → at + 1 < m → word u at ≡ word s at
  word_same at l = rw (same.bytes at (omega arith), same.bytes (at + 1) l)

  part_same : (from size : ℕ) → from + size ≤ m → take size (drop from u) ≡ take size (drop from s)
  part_same from size l =
      ext_get_or 0 _ _ (simp (length-take, length-drop, same.len))
      (λ i h.
      let b : i < size = omega (arith, simp (length-take, length-drop) at h) in
      get_or-take size (drop from u) i 0 b
      ∙ get_or-drop from u i 0
      ∙ same.bytes (from + i) (omega arith)
      ∙ sym (get_or-take size (drop from s) i 0 b ∙ get_or-drop from s i 0))

  -- of the contents entry that begins at byte `at`
  module _ (at : ℕ) (l : at + 6 ≤ m) where
    entry-same : (kind start size most : ℕ) → entry_fits u at kind start size most ≡ entry_fits s at kind start size most
    unfolding entry_fits
    entry-same kind start size most =
        rw (same.bytes at (omega arith), same.bytes (at + 1) (omega arith), word_same (at + 2) (omega arith), word_same (at + 4) (omega arith))

    end_same : end_of u at ≡ end_of s at
    end_same = rw (word_same (at + 2) (omega arith), word_same (at + 4) (omega arith))

    body_same : end_of s at ≤ m → part_of u at ≡ part_of s at
    body_same e = rw (word_same (at + 2) (omega arith), word_same (at + 4) (omega arith)) (part_same (offset_of s at) (length_of s at) e)

  module _ (room : 22 ≤ m) where
    head-same : header_fits u ≡ header_fits s
    unfolding header_fits
    head-same = rw (same.len, same.bytes 0 (omega arith), same.bytes 3 (omega arith))

    contents-same : bad_contents u ≡ bad_contents s
    unfolding bad_contents
    contents-same =
        rw (
          entry-same operations_entry (omega arith) 1 22 4 4096,
          end_same operations_entry (omega arith),
          entry-same errors_entry (omega arith) 2 (end_of s operations_entry) 5 2048,
          end_same errors_entry (omega arith),
          entry-same choices_entry (omega arith) 3 (end_of s errors_entry) 1 4096,
          end_same choices_entry (omega arith),
          same.len,
        )

    -- where the first passed 1 to 4, so does the second
    read_same : {t : ReaderAnswer} → Passed s t → read_book u ≡ read_bodies (dimension_of s) (qudits_of s) (part_of u operations_entry) (part_of u errors_entry) (part_of u choices_entry)
    unfolding read_book
    read_same p =
        rw
        (head-same, p.head, same.bytes 1 (omega arith), p.dimension, same.bytes 2 (omega arith), p.qudits, contents-same, p.contents)

-- The choices are the last body.
abbrev pub with_choices : List ℕ → List ℕ → List ℕ
with_choices s c = take (offset_of s choices_entry) s ++ c

pub record Rechosen (s c : List ℕ) (t : ReaderAnswer) : Type 0 where
  pub accepts : read_book (with_choices s c) ≡ t
  pub operations : body_of (with_choices s c) 1 ≡ body_of s 1
  pub errors : body_of (with_choices s c) 2 ≡ body_of s 2
  pub choices : body_of (with_choices s c) 3 ≡ c
  pub len : length (with_choices s c) ≡ length s
  pub start : take (offset_of s choices_entry) (with_choices s c) ≡ take (offset_of s choices_entry) s

module _ {d n operations errors choices : ℕ} (s c : List ℕ) (e : read_book s ≡ accepted d n operations errors choices)
    (count : length c ≡ length (body_of s 3)) (below : (j : ℕ) → j < length c → get_or c j 0 < d) where
  abbrev u : List ℕ
  u = with_choices s c

  passed : Passed s (accepted d n operations errors choices)
  passed = all-passed s (no_refusal d n operations errors choices) e

  lies : ContentsLaid s
  lies = laid s passed.contents

  sound : Sound (dimension_of s) (qudits_of s) (part_of s operations_entry) (part_of s errors_entry) (part_of s choices_entry) (accepted d n operations errors choices)
  sound = all_sound _ _ _ _ _ (no_refusal d n operations errors choices) passed.bodies

  -- the bytes before the choices, and as many choices
  kept : length (take (offset_of s choices_entry) s) ≡ offset_of s choices_entry
  kept = length-take-le (offset_of s choices_entry) s (omega (arith, lies.ends))

  as_many : length c ≡ length (part_of s choices_entry)
  as_many = count ∙ ap length (by_kind s 3 e)

  to_end : length c ≡ length_of s choices_entry
  to_end = as_many ∙ part_length s choices_entry (omega (arith, lies.ends))

  begins : Begin (offset_of s choices_entry) s u
  begins =
      record {
        len = length-append (take (offset_of s choices_entry) s) c ∙ omega (arith, kept, to_end, lies.ends);
        bytes = λ i l. get_or-append (take (offset_of s choices_entry) s) c 0 i (omega (arith, kept)) ∙ get_or-take (offset_of s choices_entry) s i 0 l;
      }

  room : 22 ≤ offset_of s choices_entry
  room = omega (arith, lies.first.offset, lies.second.offset, lies.third.offset)

  -- the three bodies
  operations-part : part_of u operations_entry ≡ part_of s operations_entry
  operations-part = body_same begins operations_entry (omega (arith, room)) (omega (arith, lies.second.offset, lies.third.offset))

  errors-part : part_of u errors_entry ≡ part_of s errors_entry
  errors-part = body_same begins errors_entry (omega (arith, room)) (omega (arith, lies.third.offset))

  choices-part : part_of u choices_entry ≡ c
  choices-part =
      rw (
        word_same begins 18 (omega (arith, room)),
        word_same begins 20 (omega (arith, room)),
        drop_at (take (offset_of s choices_entry) s) c (offset_of s choices_entry) kept,
        ← to_end,
      )
      (take-length c)

  good : bad_choice (dimension_of s) (choice_takers (part_of s operations_entry) (length (part_of s operations_entry) / 4)) c ≡ None
  unfolding bad_choice
  good =
      let m = accepted-means s d n operations errors choices e in
      rw
      (eq-eqb (length c) (choice_takers (part_of s operations_entry) (length (part_of s operations_entry) / 4)) (as_many ∙ one_each sound))
      (none_fails (good_choice (dimension_of s) c) (length c) (λ j l. rw m.dimension (lt-ltb (get_or c j 0) d (below j l))))

  bodies : read_bodies (dimension_of s) (qudits_of s) (part_of s operations_entry) (part_of s errors_entry) c ≡ accepted d n operations errors choices
  unfolding read_bodies
  bodies = rw (sound.operations, sound.errors, good, as_many) sound.numbers

  read : read_book u ≡ accepted d n operations errors choices
  read = read_same begins room passed ∙ rw (operations-part, errors-part, choices-part) bodies

  pub rechosen : Rechosen s c (accepted d n operations errors choices)
  rechosen =
      record {
        accepts = read;
        operations = by_kind u 1 read ∙ operations-part ∙ sym (by_kind s 1 e);
        errors = by_kind u 2 read ∙ errors-part ∙ sym (by_kind s 2 e);
        choices = by_kind u 3 read ∙ choices-part;
        len = begins.len;
        start = take_at (take (offset_of s choices_entry) s) c (offset_of s choices_entry) kept;
      }
