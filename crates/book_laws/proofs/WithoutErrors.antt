-- Without errors both runs of a book are alike: no choice is raised, so the second book of demand 3 is the book itself.
-- Assumes nothing.
use mathlib.Core.Path.{◌≡◌, refl, sym, ◌∙◌}
use mathlib.Core.List.{List, [], ◌∷◌}
use Prim.Native.Nat.{◌+◌}
use native.Mathlib.Omega.{arith}
use lib.ListN.{length}
use lib.Seq.{take-add, take_all}
use Rattle.modular.proofs.Listed.{dimension}
use Rattle.book_body.proofs.Sound.{no_refusal}
use Rattle.book.specs.Book.{choices_entry, offset_of, length_of}
use Rattle.book.specs.Decoded.{ops_in, errors_in, choices_in}
use Rattle.book.proofs.Contents.{all-passed, laid, by_kind}
use Rattle.book.proofs.Meaning.{accepted-means}
use Rattle.run_laws.proofs.NoErrors.{raised-none, verdict-none}
use Rattle.book_laws.specs.Agreement.{raised_book}
use Rattle.book_laws.specs.Clean.{WithoutErrors}
use Rattle.book_laws.proofs.Left.{frame-left}
use Rattle.book_laws.proofs.Demand3.{demand3}

pub empty : {A : Type 0} (v : List A) → length v ≡ 0 → v ≡ []
empty [] e = refl
empty (x ∷ v) e = absurd (omega arith)

pub without_errors : WithoutErrors
unfolding raised_book
without_errors s d n operations choices e t results lent given =
    let m = accepted-means s d n operations _ choices e in
    let dim = dimension d m.dimension-listed in
    let none = empty (errors_in s) m.error-count in
    let lies = laid s (all-passed s (no_refusal d n operations _ choices) e).contents in
    let whole = sym (take-add (offset_of s choices_entry) (length_of s choices_entry) s) ∙ take_all (offset_of s choices_entry + length_of s choices_entry) s (omega (arith, lies.ends)) in
    let itself : raised_book d n s ≡ s = rw (none, raised-none d n dim (ops_in s d n) m.lists.operations (choices_in s) m.lists.below, by_kind s 3 e) whole in (
      rw itself at (demand3 s d n operations _ choices e t results lent given),
      rw (frame-left given s e refl, none) (verdict-none d n dim (ops_in s d n) m.lists.operations (choices_in s) _ _ _),
    )
