-- Head and bodies laid one behind the other are the book.
-- Assumes nothing.
use mathlib.Core.Path.{◌≡◌, refl, sym, ap, ◌∙◌}
use mathlib.Core.List.{List, ◌++◌, append_assoc}
use Prim.Native.Nat.{ℕ, ◌+◌}
use native.Mathlib.Omega.{arith}
use lib.ListN.{length, drop, length-append}
use lib.Seq.{take_at, drop_at, drop-drop}
use Rattle.tableau.specs.Tableau.{put}
use Rattle.written_book.specs.Written.{head_of, book_of}
use Rattle.written_book.specs.Writer.{overwritten}
use Rattle.written_book.proofs.Read.{book-length}

-- one part more, behind what is laid
pub next : (xs ys out : List ℕ) (k : ℕ) → length xs ≡ k → put k (length ys) ys (xs ++ drop k out) ≡ (xs ++ ys) ++ drop (k + length ys) out
unfolding put
next xs ys out k e =
    rw (take_at xs (drop k out) k e, drop_at xs (drop k out) k e, drop-drop (length ys) k out) (sym (append_assoc xs ys (drop (k + length ys) out)))

module _ (d n : ℕ) (ops errors choices out : List ℕ) where
  abbrev h : List ℕ
  h = head_of d n (length ops) (length errors) (length choices)

  long : length h ≡ 22
  unfolding head_of
  long = refl

  first : put 0 (length h) h out ≡ h ++ drop 22 out
  unfolding put
  first = rw long

  whole : ((h ++ ops) ++ errors) ++ choices ≡ book_of d n ops errors choices
  unfolding book_of
  whole = append_assoc (h ++ ops) errors choices ∙ append_assoc h ops (errors ++ choices)

  pub laid_out :
      put (22 + length ops + length errors) (length choices) choices (put (22 + length ops) (length errors) errors (put 22 (length ops) ops (put 0 (length h) h out)))
      ≡ overwritten (book_of d n ops errors choices) out
  laid_out =
      rw (
        first,
        next h ops out 22 long,
        next (h ++ ops) errors out (22 + length ops) (length-append h ops ∙ omega (arith, long)),
        next ((h ++ ops) ++ errors) choices out (22 + length ops + length errors)
            (length-append (h ++ ops) errors ∙ omega (arith, long, length-append h ops)),
        book-length d n ops errors choices,
      )
      (ap (λ (x : List ℕ). x ++ drop (22 + length ops + length errors + length choices) out) whole)
