-- An accepted book of bytes is the one that its own d, n and bodies make.
-- Assumes nothing.
use mathlib.Core.Path.{◌≡◌, refl, sym, ap, ◌∙◌}
use mathlib.Core.List.{List, [], ◌∷◌, ◌++◌}
use Prim.Native.Nat.{ℕ, zero, suc, ◌+◌, ◌*◌, ◌≤◌, ◌<◌}
use native.Mathlib.Omega.{arith}
use lib.ListN.{length, get_or, take, drop, length-drop, take-append-drop}
use lib.Seq.{take-suc, take_all, drop-drop}
use Rattle.row.specs.Row.{tab}
use Rattle.book_entries.specs.Entry.{word}
use Rattle.book_body.specs.Body.{accepted}
use Rattle.book_body.proofs.Sound.{no_refusal}
use Rattle.book.specs.Book.{operations_entry, errors_entry, choices_entry, offset_of, length_of, part_of, read_book, body_of}
use Rattle.book.proofs.Contents.{Passed, all-passed, head-room, head_bytes, ContentsLaid, laid, part_length, by_kind}
use Rattle.book.proofs.Meaning.{accepted-means}
use Rattle.written_book.specs.Written.{low, high, head_of, book_of, Bytes, OnlyBook}

-- the first k elements, one by one
firsts : (s : List ℕ) (k : ℕ) → k ≤ length s → take k s ≡ tab (λ (i : ℕ). get_or s i 0) k
unfolding tab
firsts s zero l = refl
firsts s (suc k) l = take-suc s k 0 l ∙ ap (λ (x : List ℕ). x ++ (get_or s k 0 ∷ [])) (firsts s k (omega arith))

-- a number settles its two bytes
settled : (x y w : ℕ) → x < 256 → x + 256 * y ≡ w → (x ≡ low w) × (y ≡ high w)
settled x y w l e = (omega arith, omega arith)

module _ (s : List ℕ) (bytes : Bytes s) {d n o e c : ℕ} (reads : read_book s ≡ accepted d n o e c) where
  passed : Passed s (accepted d n o e c)
  passed = all-passed s (no_refusal d n o e c) reads

  lies : ContentsLaid s
  lies = laid s passed.contents

  room : 22 ≤ length s
  room = head-room s passed.head

  -- the lengths of the bodies
  abbrev a : ℕ
  a = length_of s operations_entry

  abbrev b : ℕ
  b = length_of s errors_entry

  abbrev k : ℕ
  k = length_of s choices_entry

  second : offset_of s errors_entry ≡ 22 + a
  second = omega (arith, lies.first.offset, lies.second.offset)

  third : offset_of s choices_entry ≡ 22 + a + b
  third = omega (arith, second, lies.third.offset)

  end : length s ≡ 22 + a + b + k
  end = omega (arith, third, lies.ends)

  pair-at : (at w : ℕ) → at + 1 < 22 → word s at ≡ w → (get_or s at 0 ≡ low w) × (get_or s (at + 1) 0 ≡ high w)
  pair-at at w l e = settled _ _ w (bytes.below at (omega (arith, room))) e

  head-is : take 22 s ≡ head_of d n a b k
  unfolding head_of tab
  head-is =
      let m = accepted-means s d n o e c reads in
      let h = head_bytes s passed.head in
      let w1 = pair-at 6 22 (omega arith) lies.first.offset in
      let w2 = pair-at 8 a (omega arith) refl in
      let w3 = pair-at 12 (22 + a) (omega arith) second in
      let w4 = pair-at 14 b (omega arith) refl in
      let w5 = pair-at 18 (22 + a + b) (omega arith) third in
      let w6 = pair-at 20 k (omega arith) refl in
      firsts s 22 room
      ∙ cc (
        h.0,
        m.dimension,
        m.qudits,
        h.1,
        lies.first.kind-byte,
        lies.first.zero-byte,
        w1.0,
        w1.1,
        w2.0,
        w2.1,
        lies.second.kind-byte,
        lies.second.zero-byte,
        w3.0,
        w3.1,
        w4.0,
        w4.1,
        lies.third.kind-byte,
        lies.third.zero-byte,
        w5.0,
        w5.1,
        w6.0,
        w6.1,
      )

  -- the bytes past the head are the three bodies
  parts : drop 22 s ≡ part_of s operations_entry ++ (part_of s errors_entry ++ part_of s choices_entry)
  parts =
      rw (lies.first.offset, second, third)
      (sym (take-append-drop a (drop 22 s))
      ∙ ap (λ (x : List ℕ). take a (drop 22 s) ++ x)
      (drop-drop a 22 s
      ∙ sym (take-append-drop b (drop (22 + a) s))
      ∙ ap (λ (x : List ℕ). take b (drop (22 + a) s) ++ x)
      (drop-drop b (22 + a) s ∙ sym (take_all k (drop (22 + a + b) s) (omega (arith, length-drop (22 + a + b) s, end))))))

  pub from-own-bodies : s ≡ book_of d n (body_of s 1) (body_of s 2) (body_of s 3)
  unfolding book_of
  from-own-bodies =
      rw (
        by_kind s 1 reads,
        by_kind s 2 reads,
        by_kind s 3 reads,
        part_length s operations_entry (omega (arith, lies.first.offset, end)),
        part_length s errors_entry (omega (arith, second, end)),
        part_length s choices_entry (omega (arith, third, end)),
        ← head-is,
        ← parts,
      )
      (sym (take-append-drop 22 s))

pub only-book : OnlyBook
only-book d n ops errors choices s bytes o e c reads back =
    from-own-bodies s bytes reads ∙ rw (back.operations-back, back.errors-back, back.choices-back)
