-- What an accepted book has passed, and what its table of contents says of its bodies.
-- Assumes nothing.
use Rattle.std.proofs.Common.{None}
use mathlib.Core.Path.{◌≡◌}
use mathlib.Core.Bool.{true, and-eq-true_iff}
use mathlib.Core.List.{List}
use Prim.Native.Nat.{ℕ, ◌+◌, ◌%◌, ◌≤◌}
use native.Mathlib.Omega.{arith}
use lib.Dec.{eqb, leb}
use lib.ListN.{length, get_or, drop, length-drop}
use lib.Seq.{length-take-le}
use borrow.Author.Tests.{eqb-true, leb-true}
use Rattle.modular.specs.Dimension.{listed}
use Rattle.tableau.specs.Tableau.{sized}
use Rattle.book_body.specs.Body.{length_fits, ReaderAnswer, accepted, read_bodies}
use Rattle.search.proofs.Search.{met, some-place}
use Rattle.book_body.proofs.Sound.{NoRefusal, no_refusal, nowhere}
use Rattle.book.specs.Book.{header_fits, dimension_of, qudits_of, operations_entry, errors_entry, choices_entry, offset_of, length_of, end_of, part_of, entry_fits, bad_contents, read_book, of_kind, body_of}

pub record Passed (s : List ℕ) (t : ReaderAnswer) : Type 0 where
  pub head : header_fits s ≡ true
  pub dimension : listed (dimension_of s) ≡ true
  pub qudits : sized (qudits_of s) ≡ true
  pub contents : bad_contents s ≡ None
  pub bodies : read_bodies (dimension_of s) (qudits_of s) (part_of s operations_entry) (part_of s errors_entry) (part_of s choices_entry) ≡ t

pub all-passed : {t : ReaderAnswer} (s : List ℕ) → NoRefusal t → read_book s ≡ t → Passed s t
unfolding read_book
all-passed s good e =
    let p1 = met (header_fits s) (good 1 0) e in
    let p2 = met (listed (dimension_of s)) (good 2 0) p1.1 in
    let p3 = met (sized (qudits_of s)) (good 3 0) p2.1 in
    let p4 = nowhere 4 (bad_contents s) _ good p3.1 in
    record { head = p1.0; dimension = p2.0; qudits = p3.0; contents = p4.0; bodies = p4.1 }

-- a book whose header fits has at least 22 bytes; byte 0 is 81 and byte 3 is 3
pub head-room : (s : List ℕ) → header_fits s ≡ true → 22 ≤ length s
unfolding header_fits
head-room s e = leb-true _ _ ((and-eq-true_iff (leb 22 (length s)) _).0 e).0

pub head_bytes : (s : List ℕ) → header_fits s ≡ true → (get_or s 0 0 ≡ 81) × (get_or s 3 0 ≡ 3)
unfolding header_fits
head_bytes s e =
    let b = (and-eq-true_iff (eqb (get_or s 0 0) 81) _).0 ((and-eq-true_iff (leb 22 (length s)) _).0 e).1 in
    (eqb-true _ _ b.0, eqb-true _ _ b.1)

-- an entry of the contents that fits
pub record ContentsEntry (s : List ℕ) (at kind start size most : ℕ) : Type 0 where
  pub kind-byte : get_or s at 0 ≡ kind
  pub zero-byte : get_or s (at + 1) 0 ≡ 0
  pub offset : offset_of s at ≡ start
  pub whole : length_fits (length_of s at) size most ≡ true

fits : (s : List ℕ) (at kind start size most : ℕ) → entry_fits s at kind start size most ≡ true → ContentsEntry s at kind start size most
unfolding entry_fits
fits s at kind start size most e =
    let e1 = (and-eq-true_iff (eqb (get_or s at 0) kind) _).0 e in
    let e2 = (and-eq-true_iff (eqb (get_or s (at + 1) 0) 0) _).0 e1.1 in
    let e3 = (and-eq-true_iff (eqb (offset_of s at) start) _).0 e2.1 in
    record { kind-byte = eqb-true _ _ e1.0; zero-byte = eqb-true _ _ e2.0; offset = eqb-true _ _ e3.0; whole = e3.1 }

-- each body begins where the last one ended, and the book ends with the third
pub record ContentsLaid (s : List ℕ) : Type 0 where
  pub first : ContentsEntry s operations_entry 1 22 4 4096
  pub second : ContentsEntry s errors_entry 2 (end_of s operations_entry) 5 2048
  pub third : ContentsEntry s choices_entry 3 (end_of s errors_entry) 1 4096
  pub ends : end_of s choices_entry ≡ length s

pub laid : (s : List ℕ) → bad_contents s ≡ None → ContentsLaid s
unfolding bad_contents
laid s e =
    let m0 = met (entry_fits s operations_entry 1 22 4 4096) some-place e in
    let m1 = met (entry_fits s errors_entry 2 (end_of s operations_entry) 5 2048) some-place m0.1 in
    let m2 = met (entry_fits s choices_entry 3 (end_of s errors_entry) 1 4096) some-place m1.1 in
    let m3 = met (eqb (end_of s choices_entry) (length s)) some-place m2.1 in
    record {
      first = fits s operations_entry 1 22 4 4096 m0.0;
      second = fits s errors_entry 2 (end_of s operations_entry) 5 2048 m1.0;
      third = fits s choices_entry 3 (end_of s errors_entry) 1 4096 m2.0;
      ends = eqb-true _ _ m3.0;
    }

-- the header and the bodies lie within the book
pub record Inside (s : List ℕ) : Type 0 where
  pub room : 22 ≤ length s
  pub first : end_of s operations_entry ≤ length s
  pub second : end_of s errors_entry ≤ length s
  pub third : end_of s choices_entry ≤ length s

pub inside : (s : List ℕ) → header_fits s ≡ true → bad_contents s ≡ None → Inside s
inside s h e = let l = laid s e in record { room = head-room s h; first = omega arith; second = omega arith; third = omega arith }

-- a body that lies within the book has its length
pub part_length : (s : List ℕ) (at : ℕ) → end_of s at ≤ length s → length (part_of s at) ≡ length_of s at
part_length s at l = length-take-le (length_of s at) (drop (offset_of s at) s) (omega (arith, length-drop (offset_of s at) s))

-- an accepted book's bodies are handed back by their kinds
pub by_kind : {d n operations errors choices : ℕ} (s : List ℕ) (kind : ℕ) → read_book s ≡ accepted d n operations errors choices
    → body_of s kind ≡ of_kind s kind
unfolding body_of
by_kind s kind e = rw e

-- an accepted book's operations are whole entries, and not too many
pub whole-operations : {d n operations errors choices : ℕ} (s : List ℕ) → read_book s ≡ accepted d n operations errors choices
    → (length (body_of s 1) % 4 ≡ 0) × (length (body_of s 1) ≤ 16384)
whole-operations {d} {n} {operations} {errors} {choices} s e =
    let lies = laid s (all-passed s (no_refusal d n operations errors choices) e).contents in
    let size = part_length s operations_entry (omega (arith, lies.second.offset, lies.third.offset, lies.ends)) in
    let fits = (and-eq-true_iff (eqb (length_of s operations_entry % 4) 0) (leb (length_of s operations_entry) 16384)).0 lies.first.whole in
    rw (by_kind s 1 e, size) (eqb-true _ 0 fits.0, leb-true _ 16384 fits.1)
