-- A tray of shots: a table of contents first, a two-byte count and then a two-byte length per shot, all low byte first, followed by
-- the error bodies in order. The statement is proved in proofs/.
use Rattle.std.specs.Prelude.{◌≡◌, Bool, true, false, ◌&&◌, List, ℕ, zero, suc, ◌+◌, ◌*◌, ◌<◌, eqb, leb, length, Option, Some, None}
use Rattle.search.specs.Search.{all, first_not}
use Rattle.tableau.specs.Tableau.{part}
use Rattle.book_entries.specs.Entry.{word}
use Rattle.book_body.specs.Body.{length_fits, bad_error}
use Rattle.written_book.specs.Written.{Bytes}

abbrev pub shots_in : List ℕ → ℕ
shots_in s = word s 0

abbrev pub length_at : List ℕ → ℕ → ℕ
length_at s i = word s (2 + 2 * i)

-- body i begins behind the table and the bodies before it
unfoldable pub start_of : List ℕ → ℕ → ℕ
start_of s zero = 2 + 2 * shots_in s
start_of s (suc i) = start_of s i + length_at s i

abbrev pub shot_body : List ℕ → ℕ → List ℕ
shot_body s i = part (start_of s i) (length_at s i) s

-- 11: the count passes 4,096, a length isn't whole entries or holds more than 2,048, or the tray isn't exactly as long as its table
-- says
abbrev pub good_length : List ℕ → ℕ → Bool
good_length s i = length_fits (length_at s i) 5 2048

unfoldable pub table_fits : List ℕ → Bool
table_fits s = leb (shots_in s) 4096 && (all (good_length s) (shots_in s) && eqb (start_of s (shots_in s)) (length s))

-- No tray has two readings, since `shots_in` and `shot_body` are functions of its bytes; and no two trays have the same one: of the
-- trays of bytes whose tables are right, one alone has this number of shots and these bodies.
abbrev pub OnlyTray : Type 0
OnlyTray = (s u : List ℕ) → Bytes s → Bytes u → table_fits s ≡ true → table_fits u ≡ true → shots_in s ≡ shots_in u
    → ((i : ℕ) → i < shots_in s → shot_body s i ≡ shot_body u i)
    → s ≡ u

-- 6: the first shot that has a bad error entry; places as in a book of `count` operations
abbrev pub is_nowhere : Option ℕ → Bool
is_nowhere (Some place) = false
is_nowhere None = true

abbrev pub good_shot : ℕ → ℕ → ℕ → List ℕ → ℕ → Bool
good_shot d n count s i = is_nowhere (bad_error d n count (shot_body s i))

unfoldable pub bad_shot : ℕ → ℕ → ℕ → List ℕ → Option ℕ
bad_shot d n count s = first_not (good_shot d n count s) (shots_in s)
