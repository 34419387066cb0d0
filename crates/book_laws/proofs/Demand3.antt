-- Demand 3: it holds of the decoded lists, and both books have the lists that it speaks of.
-- Assumes nothing.
use mathlib.Core.Path.{refl}
use Prim.Native.Nat.{◌+◌, ◌*◌}
use native.Mathlib.Omega.{arith}
use Rattle.modular.proofs.Listed.{dimension}
use Rattle.saved_tableau.specs.Saved.{rows_in}
use Rattle.saved_tableau_laws.proofs.Rows.{bytes-alike}
use Rattle.book.specs.Decoded.{ops_in, errors_in, choices_in}
use Rattle.book.proofs.Meaning.{accepted-means}
use Rattle.run_laws.proofs.Buffers.{runs_agree}
use Rattle.book_laws.specs.Agreement.{raised_book, Demand3}
use Rattle.book_laws.proofs.Left.{start, copied-dimension, copied-qudits, copied-rows, copy_room, direct-left, frame-left}
use Rattle.book_laws.proofs.Second.{second-accepted}

pub demand3 : Demand3
demand3 s d n operations errors choices e t results lent given =
    let m = accepted-means s d n operations errors choices e in
    let dim = dimension d m.dimension-listed in
    let second = second-accepted s d n operations errors choices e in
    let a =
    runs_agree d n dim (ops_in s d n) (errors_in s) (choices_in s) m.lists (rows_in lent.tableau) (rows_in t) lent.results results lent.shifts
    lent.frame
    (start given)
    (copy_room given)
    (copied-rows given)
    given.frame-results
    given.direct-results in
    rw (
      direct-left given (raised_book d n s) second.accepts (rw second.same-operations),
      second.same-operations,
      second.same-errors,
      second.raised-choices,
      frame-left given s e refl,
    )
    (record {
      direct-ends = refl;
      frame-ends = refl;
      direct-count = refl;
      frame-count = refl;
      results = a.results;
      tableau =
          bytes-alike t lent.tableau _ _
          (omega (arith, given.copy_room))
          (omega (arith, given.start-room))
          (2 * n * (2 * n + 1))
          (copied-dimension given)
          (copied-qudits given)
          a.tableau;
    })
