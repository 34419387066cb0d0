-- What d, n and the bodies of an accepted book have passed; such a book is a list of bytes if its bodies are.
-- Assumes nothing.
use mathlib.Core.Path.{◌≡◌}
use mathlib.Core.Bool.{and-eq-true_iff}
use mathlib.Core.List.{List, [], ◌∷◌, ◌++◌}
use Prim.Native.Nat.{ℕ, zero, suc, ◌+◌, ◌%◌, ◌≤◌, ◌<◌}
use native.Mathlib.Omega.{arith}
use lib.Dec.{eqb}
use lib.ListN.{length, get_or}
use borrow.Author.Tests.{leb-true}
use Rattle.modular.specs.Dimension.{listed}
use Rattle.modular.proofs.Listed.{dimension}
use Rattle.search.proofs.Search.{met, some-place}
use Rattle.tableau.specs.Tableau.{sized}
use Rattle.tableau.proofs.Sized.{sized-most}
use Rattle.book_body.specs.Body.{length_fits, accepted}
use Rattle.book_body.proofs.Sound.{no_refusal, nowhere}
use Rattle.written_book.specs.Written.{low, high, entry_of, head_of, book_of, bad_lengths, read_parts, Bytes}

-- nothing is too large for its byte, or for its two
pub record PartsFit (d n : ℕ) (ops errors choices : List ℕ) : Type 0 where
  pub dimension-byte : d < 256
  pub qudits-byte : n < 256
  pub operations-most : length ops ≤ 16384
  pub errors-most : length errors ≤ 10240
  pub choices-most : length choices ≤ 4096

module _ (d n : ℕ) (ops errors choices : List ℕ) where
  pub parts-passed : {d' n' o e c : ℕ} → read_parts d n ops errors choices ≡ accepted d' n' o e c → PartsFit d n ops errors choices
  unfolding read_parts
  parts-passed {d'} {n'} {o} {e} {c} h =
      let good = no_refusal d' n' o e c in
      let p2 = met (listed d) (good 2 0) h in
      let p3 = met (sized n) (good 3 0) p2.1 in
      let p4 = nowhere 4 (bad_lengths (length ops) (length errors) (length choices)) _ good p3.1 in
      let q0 = met (length_fits (length ops) 4 4096) some-place p4.0 in
      let q1 = met (length_fits (length errors) 5 2048) some-place q0.1 in
      let q2 = met (length_fits (length choices) 1 4096) some-place q1.1 in
      record {
        dimension-byte = omega (arith, (dimension d p2.0).high);
        qudits-byte = omega (arith, sized-most n p3.0);
        operations-most = leb-true _ _ ((and-eq-true_iff (eqb (length ops % 4) 0) _).0 q0.0).1;
        errors-most = leb-true _ _ ((and-eq-true_iff (eqb (length errors % 5) 0) _).0 q1.0).1;
        choices-most = leb-true _ _ ((and-eq-true_iff (eqb (length choices % 1) 0) _).0 q2.0).1;
      }

-- lists of bytes
none : Bytes []
none = record { below = λ i l. absurd (omega arith) }

one_more : {x : ℕ} {xs : List ℕ} → x < 256 → Bytes xs → Bytes (x ∷ xs)
one_more {x} {xs} h k = record { below = at }
  where
    at : (i : ℕ) → i < length (x ∷ xs) → get_or (x ∷ xs) i 0 < 256
    at zero l = h
    at (suc i) l = k.below i (omega arith)

joined : (xs : List ℕ) {ys : List ℕ} → Bytes xs → Bytes ys → Bytes (xs ++ ys)
joined [] h k = k
joined (x ∷ xs) h k = one_more (h.below 0 (omega arith)) (joined xs (record { below = λ i l. h.below (suc i) (omega arith) }) k)

two-more : {x : ℕ} {xs : List ℕ} → x < 65536 → Bytes xs → Bytes (low x ∷ high x ∷ xs)
two-more h k = one_more (omega arith) (one_more (omega arith) k)

entry-bytes : (kind offset size : ℕ) → kind < 256 → offset < 65536 → size < 65536 → Bytes (entry_of kind offset size)
entry-bytes kind offset size h k l = one_more h (one_more (omega arith) (two-more k (two-more l none)))

module _ {d n : ℕ} {ops errors choices : List ℕ} (fit : PartsFit d n ops errors choices) where
  head_bytes : Bytes (head_of d n (length ops) (length errors) (length choices))
  unfolding head_of
  head_bytes =
      one_more (omega arith)
      (one_more fit.dimension-byte
      (one_more fit.qudits-byte
      (one_more (omega arith)
      (joined _ (entry-bytes 1 22 (length ops) (omega arith) (omega arith) (omega arith))
      (joined _ (entry-bytes 2 (22 + length ops) (length errors) (omega arith) (omega arith) (omega arith))
      (entry-bytes 3 (22 + length ops + length errors) (length choices) (omega arith) (omega arith) (omega arith)))))))

  pub book-bytes : Bytes ops → Bytes errors → Bytes choices → Bytes (book_of d n ops errors choices)
  unfolding book_of
  book-bytes a b c = joined _ head_bytes (joined ops a (joined errors b c))
