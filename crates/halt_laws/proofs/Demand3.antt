-- Demand 3 with a direct run of the second book that halts, is looked at and goes on until it has finished.
-- Assumes nothing.
use mathlib.Core.Path.{◌≡◌, sym, subst}
use Rattle.book.specs.Decoded.{measurements_in}
use Rattle.direct_book.specs.DirectBook.{DirectLeft}
use Rattle.frame_run.specs.FrameBook.{frame_book}
use Rattle.book_laws.specs.Agreement.{raised_book, Alike}
use Rattle.book_laws.proofs.Left.{copy_for}
use Rattle.book_laws.proofs.Second.{second-accepted}
use Rattle.book_laws.proofs.Demand3.{demand3}
use Rattle.halt_laws.specs.Halting.{Demand3Halted}
use Rattle.halt_laws.proofs.Calls.{finishes}

pub demand3-halted : Demand3Halted
demand3-halted s d n operations errors choices e t results lent given actions f =
    let second = second-accepted s d n operations errors choices e in
    let same : measurements_in (raised_book d n s) d n ≡ measurements_in s d n = rw second.same-operations in
    let run =
    finishes (raised_book d n s) t results
    (record { reads = second.accepts; room = given.copy_room; results-room = rw same given.direct-results; for-book = copy_for given }) actions f in
    subst (λ (x : DirectLeft). Alike n (measurements_in s d n) x (frame_book s lent))
    (sym (rw same at run))
    (demand3 s d n operations errors choices e t results lent given)
