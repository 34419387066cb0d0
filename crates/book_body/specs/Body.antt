-- The three bodies: refusals 5, 6 and 7.
use Rattle.std.specs.Prelude.{Bool, false, cond, ◌&&◌, ◌||◌, List, ℕ, zero, suc, ◌+◌, ◌*◌, ◌/◌, ◌%◌, eqb, leb, ltb, length, get_or, Option, Some, None, Result, Ok, Err}
use Rattle.operation.specs.declared.WeylError.{WeylError}
use Rattle.operation.specs.Operation.{named}
use Rattle.operation.specs.Error.{error_allowed}
use Rattle.operation.specs.declared.Operation.{Operation}
use Rattle.answer.specs.declared.Refusal.{Refusal}
use Rattle.answer.specs.Refusal.{number_of, place_of}
use Rattle.book_body.specs.declared.Numbers.{Numbers}
use Rattle.search.specs.Search.{unless, all, first_not}
use Rattle.book_entries.specs.Entry.{operation_at, error_at}
use Rattle.book_entries.specs.Fits.{plain_at}

-- a number of bytes that is whole entries of `size` bytes, at most `most` of them
abbrev pub length_fits : (bytes size most : ℕ) → Bool
length_fits bytes size most = eqb (bytes % size) 0 && leb bytes (size * most)

-- the measurements among the first k operations: those of code 6
unfoldable pub measurements : List ℕ → ℕ → ℕ
measurements ops zero = 0
measurements ops (suc k) = measurements ops k + cond (eqb (get_or ops (4 * k) 0) 6) 1 0

-- Choices are counted over codes 6 and 7: those that the first k operations take.
unfoldable pub choice_takers : List ℕ → ℕ → ℕ
choice_takers ops zero = 0
choice_takers ops (suc k) = choice_takers ops k + cond (eqb (get_or ops (4 * k) 0) 6 || eqb (get_or ops (4 * k) 0) 7) 1 0

-- 5: first bad operation. An entry that isn't one of the nine operations ends the reading there, and so does a correction whose named
-- measurement does not come earlier in the book.
abbrev pub is_good : (earlier : ℕ) → Option Operation → Bool
is_good earlier (Some op) = named earlier op
is_good earlier None = false

abbrev pub good_operation : ℕ → ℕ → List ℕ → ℕ → Bool
good_operation d n ops k = is_good (measurements ops k) (operation_at d n ops k)

-- gates and measurements alone
abbrev pub all_plain : ℕ → ℕ → List ℕ → Bool
all_plain d n ops = all (plain_at d n ops) (length ops / 4)

unfoldable pub bad_operation : ℕ → ℕ → List ℕ → Option ℕ
bad_operation d n ops = first_not (good_operation d n ops) (length ops / 4)

-- 6: first bad error: place too high or falling, qudit not below n, p or s not below d. The first has nothing to fall from.
abbrev pub place_before : List ℕ → ℕ → ℕ
place_before errors zero = 0
place_before errors (suc k) = (error_at errors k).place

abbrev pub error_fits : (d n count last : ℕ) → WeylError → Bool
error_fits d n count last e = leb e.place count && (leb last e.place && error_allowed d n e)

unfoldable pub good_error : ℕ → ℕ → ℕ → List ℕ → ℕ → Bool
good_error d n count errors k = error_fits d n count (place_before errors k) (error_at errors k)

unfoldable pub bad_error : ℕ → ℕ → ℕ → List ℕ → Option ℕ
bad_error d n count errors = first_not (good_error d n count errors) (length errors / 5)

-- 7: the smaller count where choices and those that take one differ in number; else first choice not below d
abbrev pub smaller : ℕ → ℕ → ℕ
smaller a b = cond (ltb a b) a b

abbrev pub good_choice : ℕ → List ℕ → ℕ → Bool
good_choice d choices k = ltb (get_or choices k 0) d

unfoldable pub bad_choice : ℕ → ℕ → List ℕ → Option ℕ
bad_choice d taken choices =
    unless (eqb (length choices) taken) (Some (smaller (length choices) taken))
    (first_not (good_choice d choices) (length choices))

-- The reader's answer: the number and place of a book's refusal, or its own numbers.
pub data ReaderAnswer : Type 0 where
  refused : (number place : ℕ) → ReaderAnswer
  accepted : (d n operations errors choices : ℕ) → ReaderAnswer

abbrev pub refuse_at : ℕ → Option ℕ → ReaderAnswer → ReaderAnswer
refuse_at number (Some place) rest = refused number place
refuse_at number None rest = rest

unfoldable pub read_bodies : ℕ → ℕ → List ℕ → List ℕ → List ℕ → ReaderAnswer
read_bodies d n ops errors choices =
    refuse_at 5 (bad_operation d n ops)
    (refuse_at 6 (bad_error d n (length ops / 4) errors)
    (refuse_at 7 (bad_choice d (choice_takers ops (length ops / 4)) choices)
    (accepted d n (length ops / 4) (length errors / 5) (length choices))))

-- the numbers that the reader's answer stands for
abbrev pub answer_of : Result Numbers Refusal → ReaderAnswer
answer_of (Err r) = refused (number_of r) (place_of r)
answer_of (Ok b) = accepted b.d b.n b.operations b.errors b.choices

-- how many of the operations of an accepted book are measurements: what it gives besides, so that a run need not count them
abbrev pub measured_of : Result Numbers Refusal → ℕ
measured_of (Err r) = 0
measured_of (Ok b) = b.measurements

abbrev pub measured_by : List ℕ → ReaderAnswer → ℕ
measured_by ops (refused number place) = 0
measured_by ops (accepted d n operations errors choices) = measurements ops operations
