-- The mirror of a book: what the call returns, and what it leaves in the lent buffer.
use Rattle.std.specs.Prelude.{Bool, true, false, List, [], ◌∷◌, ◌++◌, ℕ, ◌+◌, ◌*◌, leb, length, Option, Some, None}
use Rattle.search.specs.Search.{unless, first_not}
use Rattle.operation.specs.declared.Operation.{Operation}
use Rattle.circuit.specs.Circuit.{op_at, Kind, gate, measures, resets, corrects, kind}
use Rattle.book_entries.specs.Entry.{bytes_of}
use Rattle.book_body.specs.Body.{ReaderAnswer, refused, accepted}
use Rattle.book.specs.Book.{read_book}
use Rattle.book.specs.Decoded.{ops_in}
use Rattle.written_book.specs.Written.{book_of}
use Rattle.written_book.specs.Writer.{WriteLeft, overwritten}
use Rattle.mirror_book.specs.Mirrored.{mirrored}

-- the body of a list of operations: their bytes, one behind the other
unfoldable pub bytes_of_all : List Operation → List ℕ
bytes_of_all [] = []
bytes_of_all (op ∷ ops) = bytes_of op ++ bytes_of_all ops

-- The mirror book: d, n, the mirrored operations, no errors and no choices.
abbrev pub mirror_of : ℕ → ℕ → List ℕ → List ℕ
mirror_of d n s = book_of d n (bytes_of_all (mirrored d (ops_in s d n))) [] []

-- It has 22 bytes and 4 per operation.
abbrev pub mirror_bytes : ℕ → ℕ
mirror_bytes operations = 22 + 4 * operations

-- a gate, and not a measurement, a reset or a correction
abbrev pub is_gate : Kind → Bool
is_gate gate = true
is_gate (measures q) = false
is_gate (resets q) = false
is_gate (corrects t m) = false

abbrev pub gate_at : List Operation → ℕ → Bool
gate_at ops k = is_gate (kind (op_at ops k))

-- the first operation that is no gate
abbrev pub first_measurement : List Operation → Option ℕ
first_measurement ops = first_not (gate_at ops) (length ops)

-- 12 when the book has a measurement, with the operation index of the first; for codes 7 and 8 as well
abbrev pub refuse12 : Option ℕ → List ℕ → WriteLeft → WriteLeft
refuse12 (Some index) out rest = record { number = 12; place = index; out = out }
refuse12 None out rest = rest

-- 1 to 7 as the reader has them, 12, then 8: the buffer is shorter than the mirror book. Success returns 0 and the number of bytes
-- written; bytes past them are kept.
unfoldable pub mirror_by_answer : (s out : List ℕ) → ReaderAnswer → WriteLeft
mirror_by_answer s out (refused number place) = record { number = number; place = place; out = out }
mirror_by_answer s out (accepted d n operations errors choices) =
    refuse12 (first_measurement (ops_in s d n)) out
    (unless (leb (mirror_bytes operations) (length out)) (record { number = 8; place = 0; out = out })
    (record { number = 0; place = mirror_bytes operations; out = overwritten (mirror_of d n s) out }))

unfoldable pub mirror_book : (s out : List ℕ) → WriteLeft
mirror_book s out = mirror_by_answer s out (read_book s)
