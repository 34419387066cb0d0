-- The second book is accepted with the same numbers as the first, and has its operations and errors.
-- Assumes nothing.
use mathlib.Core.Path.{◌≡◌}
use mathlib.Core.List.{List}
use Prim.Native.Nat.{ℕ}
use native.Mathlib.Omega.{arith}
use Rattle.modular.proofs.Listed.{dimension}
use Rattle.book_body.specs.Body.{accepted}
use Rattle.book.specs.Book.{read_book}
use Rattle.book.specs.Decoded.{ops_in, errors_in, choices_in}
use Rattle.book.proofs.Meaning.{accepted-means}
use Rattle.runs.specs.Frame.{no_frame}
use Rattle.runs.specs.Raised.{raised}
use Rattle.runs.proofs.Shifts.{raised-length}
use Rattle.run_laws.proofs.Books.{with_raised}
use Rattle.book_laws.specs.Agreement.{raised_book, SecondAccepted}
use Rattle.book.proofs.Rechosen.{Rechosen, rechosen}

module _ {d n operations errors choices : ℕ} (s : List ℕ) (e : read_book s ≡ accepted d n operations errors choices) where
  abbrev raised_in : List ℕ
  raised_in = raised d n (ops_in s d n) (errors_in s) (no_frame n) (choices_in s)

  chosen : Rechosen s raised_in (accepted d n operations errors choices)
  chosen =
      let m = accepted-means s d n operations errors choices e in
      rechosen s raised_in e
      (raised-length d n (ops_in s d n) (errors_in s) (no_frame n) (choices_in s))
      (with_raised m.lists (omega (arith, (dimension d m.dimension-listed).low)) (no_frame n)).below

pub second-accepted : SecondAccepted
unfolding raised_book
second-accepted s d n operations errors choices e =
    let r = chosen s e in
    record {
      accepts = r.accepts;
      same-operations = r.operations;
      same-errors = r.errors;
      raised-choices = r.choices;
      same_length = r.len;
      same_start = r.start;
    }
