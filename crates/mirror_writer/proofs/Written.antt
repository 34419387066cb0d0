-- Entries written one behind the other are the mirror's body, and with the head before it the mirror book.
-- Assumes nothing.
use mathlib.Core.Path.{◌≡◌, refl, sym, ap, ◌∙◌}
use mathlib.Core.List.{List, [], ◌++◌, append-nil}
use Prim.Native.Nat.{ℕ, ◌+◌, ◌*◌, ◌%◌}
use native.Mathlib.Numerals.{add-one}
use native.Mathlib.Omega.{arith}
use lib.ListN.{length, drop, take-append-drop}
use lib.Seq.{drop-length}
use Rattle.row.specs.Row.{tab}
use Rattle.row.proofs.Fill.{tab-length}
use Rattle.tableau.specs.Tableau.{put}
use Rattle.operation.specs.declared.Operation.{Operation}
use Rattle.book_entries.specs.Entry.{bytes_of}
use Rattle.book.specs.Decoded.{operations_of}
use Rattle.book.proofs.Lists.{op-count}
use Rattle.written_book.specs.Written.{head_of, book_of}
use Rattle.written_book.specs.Writer.{overwritten}
use Rattle.writer.proofs.LaidOut.{next, laid_out}
use Rattle.mirror_book.specs.Mirrored.{mirrored}
use Rattle.mirror_book.specs.MirrorBook.{bytes_of_all}
use Rattle.mirror_book.proofs.Mirrored.{mirrored-length}
use Rattle.mirror_book.proofs.Body.{four, body-length, body_more}

-- a body whose first k entries are written
pub written : (f : ℕ → Operation) (v₀ : List ℕ) (k : ℕ) → List ℕ
written f v₀ k = bytes_of_all (tab f k) ++ drop (4 * k) v₀

module _ (f : ℕ → Operation) (v₀ : List ℕ) where
  pub written_none : v₀ ≡ written f v₀ 0
  unfolding tab bytes_of_all written
  written_none = refl

  -- one entry more
  pub written-more : (v w : List ℕ) (k : ℕ) → v ≡ written f v₀ k → w ≡ put (4 * k) 4 (bytes_of (f k)) v → w ≡ written f v₀ (k + 1)
  unfolding tab written
  written-more v w k h e =
      let long : length (bytes_of_all (tab f k)) ≡ 4 * k = body-length (tab f k) ∙ ap (λ (x : ℕ). 4 * x) (tab-length f k) in
      let q : 4 * k + 4 ≡ 4 * (k + 1) = omega arith in
      let laid : put (4 * k) 4 (bytes_of (f k)) (bytes_of_all (tab f k) ++ drop (4 * k) v₀) ≡ (bytes_of_all (tab f k) ++ bytes_of (f k)) ++ drop (4 * k + 4) v₀ =
      rw four at (next (bytes_of_all (tab f k)) (bytes_of (f k)) v₀ (4 * k) long) in
      e ∙ ap (put (4 * k) 4 (bytes_of (f k))) h ∙ laid ∙ rw (q, add-one k, body_more (tab f k) (f k))

  -- every entry
  pub written_all : (v : List ℕ) (k : ℕ) → v ≡ written f v₀ k → length v₀ ≡ 4 * k → v ≡ bytes_of_all (tab f k)
  unfolding written
  written_all v k h e = h ∙ rw (← e, drop-length v₀) (append-nil (bytes_of_all (tab f k)))

-- a part of no bytes changes nothing
put-none : (i : ℕ) (v : List ℕ) → put i 0 [] v ≡ v
unfolding put
put-none i v = take-append-drop i v

-- the head, and behind it the body of operations: the bodies of errors and choices are empty
pub mirror-laid : (d n size : ℕ) (body out : List ℕ) → length body ≡ size
    → put 22 size body (put 0 (length (head_of d n size 0 0)) (head_of d n size 0 0) out) ≡ overwritten (book_of d n body [] []) out
mirror-laid d n size body out e =
    let h = head_of d n (length body) 0 0 in
    let laid = put 22 (length body) body (put 0 (length h) h out) in
    rw (← e)
    (sym (put-none (22 + length body) laid)
    ∙ sym (put-none (22 + length body + 0) (put (22 + length body) 0 [] laid))
    ∙ laid_out d n body [] [] out)

pub mirror-size : (d n : ℕ) (ops : List ℕ) → length ops % 4 ≡ 0 → length (bytes_of_all (mirrored d (operations_of d n ops))) ≡ length ops
mirror-size d n ops e =
    omega (arith, body-length (mirrored d (operations_of d n ops)), mirrored-length d (operations_of d n ops), op-count d n ops, e)
