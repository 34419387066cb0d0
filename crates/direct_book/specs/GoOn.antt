-- A direct run of a book that is told to halt, and that goes on: what is returned, and what is left in the buffers.
use Rattle.std.specs.Prelude.{List, ℕ, leb, length}
use Rattle.search.specs.Search.{unless}
use Rattle.saved_tableau.specs.Saved.{rows_in}
use Rattle.book.specs.Book.{read_book}
use Rattle.book.specs.Decoded.{ops_in, errors_in, choices_in, measurements_in}
use Rattle.runs.specs.Direct.{state_of}
use Rattle.halts.specs.Halt.{finished, next_of, direct_from}
use Rattle.direct_book.specs.DirectBook.{DirectLeft, direct_refused, direct_reached, direct_tested, direct_by}

-- 13, with 0, when the number to go on from passes a finished run's; it is tested last. Else a count of operations from that number on.
abbrev pub go_on_reached : (s : List ℕ) (from count : ℕ) (t results : List ℕ) (d n : ℕ) → DirectLeft
go_on_reached s from count t results d n =
    unless (leb from (finished (length (ops_in s d n)))) (direct_refused 13 0 t results)
    (direct_reached (measurements_in s d n) (next_of (length (ops_in s d n)) from count) t
    (direct_from d n (ops_in s d n) (errors_in s) (choices_in s) from count (state_of (rows_in t) results)))

-- Going on takes that number, a count of further operations, the book, the tableau and the same results buffer. A direct run that is told
-- to halt after a count of operations goes on from 0.
unfoldable pub go_on_book : (s : List ℕ) (from count : ℕ) (t results : List ℕ) → DirectLeft
go_on_book s from count t results = direct_by t results (go_on_reached s from count t results) (direct_tested s t results (read_book s))
