-- A loop through a lane's errors of place k.
-- Assumes nothing.
use mathlib.Core.Path.{◌≡◌, refl, sym, ap, ◌∙◌}
use mathlib.Core.Logic.{◌≢◌}
use mathlib.Core.List.{List}
use Prim.Native.Nat.{ℕ, ◌+◌, ◌*◌, ◌/◌, ◌<◌, ◌≤◌}
use native.Mathlib.Omega.{arith}
use lib.ListN.{length}
use borrow.Author.Tests.{lt-ltb, le-ltb}
use Rattle.std.specs.Prelude.{Some, None}
use Rattle.operation.specs.declared.WeylError.{WeylError}
use Rattle.operation.specs.Error.{error_frame}
use Rattle.circuit.specs.Circuit.{err_at}
use Rattle.book_entries.specs.Entry.{word, error_at}
use Rattle.book.specs.Decoded.{errors_of}
use Rattle.book.proofs.Lists.{error-count, error-at}
use Rattle.runs.specs.Reached.{Reached}
use Rattle.runs.specs.Frame.{errors_on_frame}
use Rattle.runs.proofs.Taken.{frame-taken, taken_more, taken-after}
use Rattle.lanes.specs.Lanes.{lane, Alone}
use Rattle.calendar.specs.LaneErrors.{ErrorsApplied}
use Rattle.calendar.specs.Calendar.{place_from}

-- the loop: lane l has the errors of place k up to entry i, which it had up to entry j
pub record Applying (d n k l j i : ℕ) (errors : List WeylError) (v w : List ℕ) : Type 0 where
  pub len : length w ≡ length v
  pub here : (F : List ℕ) → lane n v l ≡ errors_on_frame d n errors k F j → lane n w l ≡ errors_on_frame d n errors k F i
  pub others : (m : ℕ) → m < 256 → m ≢ l → lane n w m ≡ lane n v m

pub applying_none : {d n k l j : ℕ} {errors : List WeylError} {v : List ℕ} → Applying d n k l j j errors v v
applying_none = record { len = refl; here = λ F e. e; others = λ m h e. refl }

pub applying_more : {d n k l j i : ℕ} {errors : List WeylError} {u v w : List ℕ} → (err_at errors i).place ≡ k
    → Applying d n k l j i errors u v → Alone (error_frame d n (err_at errors i)) n l v w → Applying d n k l j (i + 1) errors u w
applying_more {d} {n} {k} {l} {j} {i} {errors} e a b =
    record {
      len = b.len ∙ a.len;
      here = λ F h. b.here ∙ ap (error_frame d n (err_at errors i)) (a.here F h) ∙ sym (taken_more (frame-taken d n errors k F) i e);
      others = λ m h z. b.others m h z ∙ a.others m h z;
    }

pub applying_all : {d n k l j i : ℕ} {errors : List WeylError} {u v : List ℕ} → Reached errors i (k + 1) → Applying d n k l j i errors u v
    → ErrorsApplied d n k l j errors u v
applying_all {d} {n} {k} {errors = errors} r a =
    record { len = a.len; here = λ F h. a.here F h ∙ sym (taken-after (frame-taken d n errors k F) r); others = a.others }

-- the place of entry i
pub place_at : (es : List ℕ) (i : ℕ) → i < length es / 5 → (err_at (errors_of es) i).place ≡ word es (5 * i)
unfolding error_at
place_at es i l = ap (λ (e : WeylError). e.place) (error-at es i l)

pub place_inside : (es : List ℕ) (i : ℕ) → i < length es / 5 → Some (word es (5 * i)) ≡ place_from (errors_of es) i
unfolding place_from
place_inside es i l = let in_list : i < length (errors_of es) = omega (arith, error-count es) in rw (lt-ltb _ _ in_list) (ap Some (sym (place_at es i l)))

pub place-past : (es : List ℕ) (i : ℕ) → length (errors_of es) ≤ i → None ≡ place_from (errors_of es) i
unfolding place_from
place-past es i past = rw (le-ltb _ _ past) refl
