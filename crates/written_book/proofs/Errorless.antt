-- An accepted book with other errors is read as it was, but for those errors. With none it is accepted.
-- Assumes nothing.
use Rattle.std.proofs.Common.{None}
use mathlib.Core.Path.{◌≡◌, refl}
use mathlib.Core.Bool.{true}
use mathlib.Core.List.{List, []}
use Prim.Native.Nat.{ℕ, ◌/◌}
use native.Mathlib.Omega.{arith}
use lib.ListN.{length}
use Rattle.search.specs.Search.{first_not}
use Rattle.book_body.specs.Body.{length_fits, bad_error, accepted, refuse_at, read_bodies}
use Rattle.book_body.proofs.Sound.{no_refusal, Sound, all_sound}
use Rattle.book.specs.Book.{operations_entry, errors_entry, choices_entry, part_of, read_book, body_of}
use Rattle.book.specs.Decoded.{Means}
use Rattle.book.proofs.Contents.{Passed, all-passed, ContentsLaid, laid, part_length, by_kind}
use Rattle.book.proofs.Meaning.{accepted-means}
use Rattle.written_book.specs.Written.{book_of, bad_lengths, read_parts}
use Rattle.written_book.specs.Errorless.{ErrorlessAccepted}
use Rattle.written_book.proofs.Read.{reads-written, bodies-back}

module _ (s : List ℕ) {d n operations errors choices : ℕ} (e : read_book s ≡ accepted d n operations errors choices) where
  passed : Passed s (accepted d n operations errors choices)
  passed = all-passed s (no_refusal d n operations errors choices) e

  lies : ContentsLaid s
  lies = laid s passed.contents

  means : Means s d n operations errors choices
  means = accepted-means s d n operations errors choices e

  sound : Sound d n (part_of s operations_entry) (part_of s errors_entry) (part_of s choices_entry) (accepted d n operations errors choices)
  sound = all_sound _ _ _ _ _ (no_refusal d n operations errors choices) (rw (means.dimension, means.qudits) at passed.bodies)

  module _ (other : List ℕ) (whole : length_fits (length other) 5 2048 ≡ true) where
    lengths : bad_lengths (length (part_of s operations_entry)) (length other) (length (part_of s choices_entry)) ≡ None
    lengths =
        rw (
          part_length s operations_entry (omega (arith, lies.second.offset, lies.third.offset, lies.ends)),
          part_length s choices_entry (omega (arith, lies.ends)),
          lies.first.whole,
          whole,
          lies.third.whole,
        )

    pub with_errors : read_book (book_of d n (body_of s 1) other (body_of s 3)) ≡ refuse_at 6 (bad_error d n operations other) (accepted d n operations (length other / 5) choices)
    unfolding read_parts read_bodies
    with_errors =
        let x = sound.numbers in
        let operation_count : length (part_of s operations_entry) / 4 ≡ operations = cc in
        let choice_count_lem : length (part_of s choices_entry) ≡ choices = cc in
        rw (
          reads-written d n (body_of s 1) other (body_of s 3),
          means.dimension-listed,
          means.qudits-sized,
          by_kind s 1 e,
          by_kind s 3 e,
          lengths,
          sound.operations,
          sound.choices,
          operation_count,
          choice_count_lem,
        )

pub errorless-accepted : ErrorlessAccepted
unfolding bad_error first_not
errorless-accepted s d n operations errors choices e =
    let reads = with_errors s e [] refl in
    let b = bodies-back d n (body_of s 1) [] (body_of s 3) operations 0 choices reads in
    record { accepts = reads; same-operations = b.operations-back; no-errors = b.errors-back; same-choices = b.choices-back }
