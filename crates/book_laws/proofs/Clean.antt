-- The verdict of a book: the theorem of the decoded lists, for the book and for that book without its errors.
-- Assumes nothing.
use mathlib.Core.Path.{◌≡◌, refl}
use mathlib.Core.List.{List, []}
use Prim.Native.Nat.{ℕ, ◌+◌}
use native.Mathlib.Omega.{arith}
use Rattle.modular.specs.Dimension.{Dimension}
use Rattle.modular.proofs.Listed.{dimension}
use Rattle.row.specs.Row.{tab}
use Rattle.saved_tableau.specs.Saved.{rows_in}
use Rattle.saved_tableau_laws.proofs.Rows.{rows_back}
use Rattle.book_body.specs.Body.{accepted}
use Rattle.book.specs.Book.{read_book}
use Rattle.book.specs.Decoded.{Means, errors_of, ops_in, errors_in, choices_in, measurements_in}
use Rattle.book.proofs.Meaning.{accepted-means}
use Rattle.written_book.specs.Errorless.{errorless, ErrorsRemoved}
use Rattle.written_book.proofs.Errorless.{errorless-accepted}
use Rattle.measurement_laws.specs.Stabilizers.{SameSet}
use Rattle.measurement_laws.proofs.Sets.{same_set, same_back, same_through}
use Rattle.runs.specs.Direct.{State, state_of, direct_run}
use Rattle.runs.specs.Frame.{no_frame, frame_run}
use Rattle.run_laws.proofs.Books.{named_in}
use Rattle.run_laws.proofs.Results.{related_none, Equal}
use Rattle.run_laws.proofs.Buffers.{Twin, twin_run}
use Rattle.run_laws.proofs.Clean.{clean-lists}
use Rattle.direct_book.specs.DirectBook.{direct_book}
use Rattle.frame_run.specs.FrameBook.{Buffers, frame_book}
use Rattle.book_laws.specs.Lent.{Lent}
use Rattle.book_laws.specs.Clean.{Compared, CleanExactly}
use Rattle.book_laws.proofs.Left.{start, window, direct-left, frame-left}

pub no-errors : errors_of [] ≡ []
unfolding errors_of tab
no-errors = refl

module _ (s : List ℕ) {d n operations errors choices : ℕ} (e : read_book s ≡ accepted d n operations errors choices)
    {t results : List ℕ} {lent : Buffers} (given : Lent d n (measurements_in s d n) t results lent) where
  means : Means s d n operations errors choices
  means = accepted-means s d n operations errors choices e

  dim : Dimension d
  dim = dimension d means.dimension-listed

  taken : ErrorsRemoved d n operations choices s
  taken = errorless-accepted s d n operations errors choices e

  -- the run without errors, from either copy of the start tableau
  abbrev clean-from : State → State
  clean-from st = direct_run d n (ops_in s d n) [] (choices_in s) st

  abbrev started : State
  started = state_of (rows_in lent.tableau) lent.results

  abbrev copied : State
  copied = state_of (rows_in t) results

  same : SameSet d n (clean-from started).rows (clean-from copied).rows
  same =
      let twin : Twin n (measurements_in s d n) (measurements_in s d n) (clean-from started) (clean-from copied) =
      twin_run d n (omega (arith, dim.low)) (ops_in s d n) [] (choices_in s) (named_in means.lists)
      (record { rows = window given; results = related_none Equal _ given.frame-results given.direct-results }) in
      same_set d n (λ i l. twin.rows.rows (n + i) (omega arith))

  compared : Compared d n (direct_book (errorless d n s) t results) (frame_book s lent)
  unfolding frame_run
  compared =
      let a = clean-lists d n dim (ops_in s d n) (errors_in s) (choices_in s) (no_frame n) means.lists started (start given) lent.shifts lent.frame given.frame-results in
      rw (
        direct-left given (errorless d n s) taken.accepts (rw taken.same-operations),
        taken.same-operations,
        taken.no-errors,
        taken.same-choices,
        no-errors,
        frame-left given s e refl,
      )
      (record {
        clean-ends = refl;
        frame-ends = refl;
        exactly =
            rw (rows_back t _ (omega (arith, given.copy_room)), rows_back lent.tableau _ (omega (arith, given.start-room)))
            (λ c. same_through d n (a.0 c) same, λ h. a.1 (same_through d n h (same_back d n same)));
      })

pub clean-exactly : CleanExactly
clean-exactly s d n operations errors choices e t results lent given = compared s e given
