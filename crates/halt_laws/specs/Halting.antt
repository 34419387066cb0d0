-- A direct run of a whole book that halts, is looked at and goes on. The statements are proved in proofs/.
use Rattle.std.specs.Prelude.{◌≡◌, true, List, [], ◌∷◌, ℕ, ◌+◌, ◌*◌, ◌<◌, ◌≤◌, length}
use Rattle.saved_tableau.specs.Saved.{rows_in, tableau_bytes, valid_for}
use Rattle.book_body.specs.Body.{accepted}
use Rattle.book.specs.Book.{read_book}
use Rattle.book.specs.Decoded.{ops_in, errors_in, choices_in, measurements_in}
use Rattle.runs.specs.Direct.{state_of}
use Rattle.halts.specs.Halt.{finished, next_of, Action, go_on, look_at, reaches, direct_to}
use Rattle.direct_book.specs.DirectBook.{DirectLeft, direct_reached, direct_book}
use Rattle.direct_book.specs.GoOn.{go_on_book}
use Rattle.frame_run.specs.FrameBook.{Buffers, frame_book}
use Rattle.book_laws.specs.Lent.{Lent}
use Rattle.book_laws.specs.Agreement.{raised_book, Alike}

-- Halting and going on, with the number and the buffers that were left, is going on at once, from any number.
abbrev pub GoesOnBook : Type 0
GoesOnBook = (s : List ℕ) (from one two : ℕ) (t results : List ℕ) → (go_on_book s from one t results).number ≡ 0
    → let halted = go_on_book s from one t results in
    go_on_book s halted.next two halted.tableau halted.results ≡ go_on_book s from (one + two) t results

-- A run told to halt after more operations than a book may have is the direct run, refusals included.
abbrev pub WholeBook : Type 0
WholeBook = (s : List ℕ) (count : ℕ) (t results : List ℕ) → 4096 < count → go_on_book s 0 count t results ≡ direct_book s t results

-- Where the number stays, from a finished run or for a count of 0, nothing is done: no byte changes.
abbrev pub NothingDone : Type 0
NothingDone = (s : List ℕ) (d n operations errors choices : ℕ) → read_book s ≡ accepted d n operations errors choices
    → (t results : List ℕ) → tableau_bytes n ≤ length t → 2 * measurements_in s d n ≤ length results → valid_for d n t ≡ true
    → (from count : ℕ) → from ≤ finished operations → next_of operations from count ≡ from
    → go_on_book s from count t results ≡ record { number = 0; place = measurements_in s d n; next = from; tableau = t; results = results }

-- Calls one after the other, each with the number and the buffers that the one before it left. Looking changes no byte.
unfoldable pub calls : List ℕ → List Action → DirectLeft → DirectLeft
calls s [] left = left
calls s (go_on count ∷ actions) left = calls s actions (go_on_book s left.next count left.tableau left.results)
calls s (look_at qudit ∷ actions) left = calls s actions left

-- before the first call, from number 0
abbrev pub not_begun : (measurements : ℕ) (t results : List ℕ) → DirectLeft
not_begun measurements t results = record { number = 0; place = measurements; next = 0; tableau = t; results = results }

-- None of these calls is refused: they end with 0, the book's number of measurements, the number that was reached, and in both buffers the
-- stages up to it. (This holds of every list of actions, so of each beginning of one.)
abbrev pub CallsReach : Type 0
CallsReach = (s : List ℕ) (d n operations errors choices : ℕ) → read_book s ≡ accepted d n operations errors choices
    → (t results : List ℕ) → tableau_bytes n ≤ length t → 2 * measurements_in s d n ≤ length results → valid_for d n t ≡ true
    → (actions : List Action)
    → let reached = reaches operations 0 actions in
    calls s actions (not_begun (measurements_in s d n) t results)
    ≡ direct_reached (measurements_in s d n) reached t
    (direct_to d n (ops_in s d n) (errors_in s) (choices_in s) 0 reached (state_of (rows_in t) results))

-- A run that reaches a number after any looks and halts equals the one that reaches it in a single call.
abbrev pub SingleCall : Type 0
SingleCall = (s : List ℕ) (d n operations errors choices : ℕ) → read_book s ≡ accepted d n operations errors choices
    → (t results : List ℕ) → tableau_bytes n ≤ length t → 2 * measurements_in s d n ≤ length results → valid_for d n t ≡ true
    → (actions : List Action)
    → calls s actions (not_begun (measurements_in s d n) t results) ≡ go_on_book s 0 (reaches operations 0 actions) t results

-- One that has finished, whatever looks and halts it had, is the direct run.
abbrev pub FinishedCalls : Type 0
FinishedCalls = (s : List ℕ) (d n operations errors choices : ℕ) → read_book s ≡ accepted d n operations errors choices
    → (t results : List ℕ) → tableau_bytes n ≤ length t → 2 * measurements_in s d n ≤ length results → valid_for d n t ≡ true
    → (actions : List Action) → reaches operations 0 actions ≡ finished operations
    → calls s actions (not_begun (measurements_in s d n) t results) ≡ direct_book s t results

-- Demand 3 speaks of a direct run that has finished, whatever looks and halts it had.
abbrev pub Demand3Halted : Type 0
Demand3Halted = (s : List ℕ) (d n operations errors choices : ℕ) → read_book s ≡ accepted d n operations errors choices
    → (t results : List ℕ) (lent : Buffers) → Lent d n (measurements_in s d n) t results lent
    → (actions : List Action) → reaches operations 0 actions ≡ finished operations
    → Alike n (measurements_in s d n) (calls (raised_book d n s) actions (not_begun (measurements_in s d n) t results)) (frame_book s lent)
