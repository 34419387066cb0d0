-- The errors of a body that has no bad entry.
-- Assumes nothing.
use Rattle.std.proofs.Common.{None}
use mathlib.Core.Path.{◌≡◌}
use mathlib.Core.Logic.{⊎_elim}
use mathlib.Core.Bool.{true, ◌&&◌, and-eq-true_iff}
use mathlib.Core.List.{List}
use Prim.Native.Nat.{ℕ, zero, suc, ◌/◌, ◌<◌, ◌≤◌}
use native.Mathlib.Nat.{eq-or-lt_of_le, le_refl, le_trans, le_of_suc-le-suc}
use native.Mathlib.Omega.{arith}
use lib.Dec.{leb}
use lib.ListN.{length}
use borrow.Author.Tests.{leb-true}
use Rattle.search.proofs.Search.{all-good}
use Rattle.operation.specs.Error.{error_allowed}
use Rattle.circuit.specs.Circuit.{err_at, ErrorsInOrder}
use Rattle.book_entries.specs.Entry.{error_at}
use Rattle.book_body.specs.Body.{place_before, good_error, bad_error}
use Rattle.book.specs.Decoded.{errors_of}
use Rattle.book.proofs.Lists.{error-count, error-at}

module _ (d n count : ℕ) (es : List ℕ) (good : bad_error d n count es ≡ None) where
  fits : (j : ℕ) → j < length es / 5 →
      ((error_at es j).place ≤ count) × (place_before es j ≤ (error_at es j).place) × (error_allowed d n (error_at es j) ≡ true)
  unfolding bad_error good_error
  fits j h =
      let e = error_at es j in
      let a = (and-eq-true_iff (leb e.place count) (leb (place_before es j) e.place && error_allowed d n e)).0 (all-good (good_error d n count es) (length es / 5) good j h) in
      let b = (and-eq-true_iff (leb (place_before es j) e.place) (error_allowed d n e)).0 a.1 in
      (leb-true _ _ a.0, leb-true _ _ b.0, b.1)

  ordered : (i j : ℕ) → i ≤ j → j < length es / 5 → (error_at es i).place ≤ (error_at es j).place
  ordered i zero h l = let e : i ≡ 0 = omega arith in rw e (le_refl _)
  ordered i (suc j) h l =
      ⊎_elim (λ (e : i ≡ suc j). rw e (le_refl _)) (λ (b : i < suc j). le_trans (ordered i j (le_of_suc-le-suc b) (omega arith)) (fits (suc j) l).1)
      (eq-or-lt_of_le h)

  pub errors-in-order : ErrorsInOrder d n (errors_of es)
  errors-in-order =
      record {
        each = λ j h. let l : j < length es / 5 = rw error-count at h in rw (error-at es j l) (fits j l).2;
        in_order =
            λ i j h l.
            let lj : j < length es / 5 = rw error-count at l in
            let li : i < length es / 5 = omega arith in
            rw (error-at es i li, error-at es j lj) (ordered i j h lj);
      }

  pub places : (j : ℕ) → j < length (errors_of es) → (err_at (errors_of es) j).place ≤ count
  places j h = let l : j < length es / 5 = rw error-count at h in rw (error-at es j l) (fits j l).0
