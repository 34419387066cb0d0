-- The shot book: its header, its table of contents, and its bodies by kind.
use Rattle.std.specs.Prelude.{Bool, cond, ◌&&◌, List, [], ℕ, ◌+◌, eqb, leb, length, get_or, take, drop, Option, Some, None}
use Rattle.modular.specs.Dimension.{listed}
use Rattle.tableau.specs.Tableau.{sized}
use Rattle.search.specs.Search.{unless}
use Rattle.book_entries.specs.Entry.{word}
use Rattle.book_body.specs.Body.{length_fits, ReaderAnswer, refused, accepted, refuse_at, read_bodies}

-- Byte 0 is 81, then d, n, 3.
unfoldable pub header_fits : List ℕ → Bool
header_fits s = leb 22 (length s) && (eqb (get_or s 0 0) 81 && eqb (get_or s 3 0) 3)

abbrev pub dimension_of : List ℕ → ℕ
dimension_of s = get_or s 1 0

abbrev pub qudits_of : List ℕ → ℕ
qudits_of s = get_or s 2 0

-- A table of contents of three entries, six bytes each: the byte at which each entry begins.
abbrev pub operations_entry : ℕ
operations_entry = 4

abbrev pub errors_entry : ℕ
errors_entry = 10

abbrev pub choices_entry : ℕ
choices_entry = 16

-- An entry: kind, 0, offset, length (two bytes each, low byte first). Here `at` is the byte at which it begins.
abbrev pub offset_of : List ℕ → ℕ → ℕ
offset_of s at = word s (at + 2)

abbrev pub length_of : List ℕ → ℕ → ℕ
length_of s at = word s (at + 4)

abbrev pub end_of : List ℕ → ℕ → ℕ
end_of s at = offset_of s at + length_of s at

abbrev pub part_of : List ℕ → ℕ → List ℕ
part_of s at = take (length_of s at) (drop (offset_of s at) s)

unfoldable pub entry_fits : List ℕ → (at kind start size most : ℕ) → Bool
entry_fits s at kind start size most =
    eqb (get_or s at 0) kind && (eqb (get_or s (at + 1) 0) 0 && (eqb (offset_of s at) start && length_fits (length_of s at) size most))

-- 4: first wrong contents entry, numbered 0 to 2; 3 if only the end is wrong. Kinds 1, 2, 3 stand in this order. The first body
-- begins at byte 22, each next one where the last ended, and the book ends with the third.
unfoldable pub bad_contents : List ℕ → Option ℕ
bad_contents s =
    unless (entry_fits s operations_entry 1 22 4 4096) (Some 0)
    (unless (entry_fits s errors_entry 2 (end_of s operations_entry) 5 2048) (Some 1)
    (unless (entry_fits s choices_entry 3 (end_of s errors_entry) 1 4096) (Some 2)
    (unless (eqb (end_of s choices_entry) (length s)) (Some 3) None)))

-- 1: book under 22 bytes, byte 0 not 81, or byte 3 not 3; 2: d not in the list; 3: n outside 1 to 64; then 4 to 7
unfoldable pub read_book : List ℕ → ReaderAnswer
read_book s =
    unless (header_fits s) (refused 1 0)
    (unless (listed (dimension_of s)) (refused 2 0)
    (unless (sized (qudits_of s)) (refused 3 0)
    (refuse_at 4 (bad_contents s)
    (read_bodies (dimension_of s) (qudits_of s) (part_of s operations_entry) (part_of s errors_entry) (part_of s choices_entry)))))

-- A body fetched by kind; for a book refused by 1 to 7, or another kind, the part has length 0.
abbrev pub if_accepted : ReaderAnswer → List ℕ → List ℕ
if_accepted (refused number place) s = []
if_accepted (accepted d n operations errors choices) s = s

abbrev pub of_kind : List ℕ → ℕ → List ℕ
of_kind s kind =
    cond (eqb kind 1) (part_of s operations_entry)
    (cond (eqb kind 2) (part_of s errors_entry)
    (cond (eqb kind 3) (part_of s choices_entry) []))

unfoldable pub body_of : List ℕ → ℕ → List ℕ
body_of s kind = if_accepted (read_book s) (of_kind s kind)
