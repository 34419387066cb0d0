-- Calls of a book: none is refused, since the tableau stays valid and the buffers keep their lengths.
-- Assumes nothing.
use mathlib.Core.Path.{◌≡◌, refl, sym, ap, ◌∙◌}
use mathlib.Core.List.{List, [], ◌∷◌, ◌++◌}
use Prim.Native.Nat.{ℕ, ◌+◌, ◌<◌, ◌≤◌}
use native.Mathlib.Omega.{arith}
use lib.Dec.{leb, ltb}
use lib.ListN.{length, take-append-drop}
use borrow.Author.Tests.{le-leb, leb-true, lt-ltb, eq-eqb}
use Rattle.modular.specs.Dimension.{Dimension}
use Rattle.modular.proofs.Listed.{dimension}
use Rattle.search.specs.Search.{unless}
use Rattle.search.proofs.Search.{both, unless_cases}
use Rattle.validity.specs.Validity.{Valid}
use Rattle.saved_tableau.specs.Saved.{rows_in, with_rows, names, valid_for}
use Rattle.saved_tableau.specs.Test.{test_number}
use Rattle.saved_tableau_laws.proofs.Rows.{opened, same_bytes, rows_back}
use Rattle.saved_tableau_laws.proofs.Exactly.{test-exactly, saved_passes, is-named, valid-for, valid-rows}
use Rattle.book.specs.Book.{body_of}
use Rattle.book.specs.Decoded.{Means, ops_in, errors_in, choices_in, measurements_in}
use Rattle.book.proofs.Contents.{whole-operations}
use Rattle.book.proofs.Lists.{op-count}
use Rattle.book.proofs.Meaning.{accepted-means}
use Rattle.measurement.specs.Look.{look}
use Rattle.look_call.specs.LookBytes.{told, look_refused, look_bytes}
use Rattle.runs.specs.Direct.{State, state_of}
use Rattle.halts.specs.Halt.{finished, next_of, Action, go_on, look_at, reaches, direct_to}
use Rattle.halts.proofs.Numbers.{next-is, next-next, next_start, next-finished, reaches-most}
use Rattle.halts.proofs.Goes.{to-finish, stays, goes-along}
use Rattle.halts.proofs.Kept.{to-keeps-valid, to-results}
use Rattle.direct_book.specs.DirectBook.{DirectLeft, direct_reached, direct_ended, direct_by, direct_book}
use Rattle.direct_book.specs.GoOn.{go_on_reached, go_on_book}
use Rattle.direct_book.specs.Passes.{Passes}
use Rattle.direct_book.proofs.Tested.{left_cases, passes-tested, left-same, no_success}
use Rattle.book_laws.proofs.Left.{direct-ended}
use Rattle.halt_laws.specs.Halting.{GoesOnBook, WholeBook, NothingDone, calls, not_begun, CallsReach, SingleCall, FinishedCalls}
use Rattle.halt_laws.specs.Looking.{CallsLook}

-- a tableau with other rows behind its two bytes, and again others
rows-twice : (t rows rows' : List ℕ) → 2 ≤ length t → with_rows (with_rows t rows) rows' ≡ with_rows t rows'
rows-twice t rows rows' h = ap (λ (two : List ℕ). two ++ rows') (same_bytes t rows h)

-- a look at a tableau that passes the test
look_of : (d n : ℕ) (rows : List ℕ) (qudit : ℕ) → test_number (d ∷ n ∷ rows) ≡ 0
    → look_bytes (d ∷ n ∷ rows) qudit ≡ unless (ltb qudit n) (look_refused 13) (told (look d n rows qudit))
unfolding look_bytes
look_of d n rows qudit e = rw (eq-eqb (test_number (d ∷ n ∷ rows)) 0 e)

module _ (s t results : List ℕ) {d n operations errors choices : ℕ} (g : Passes s t results d n operations errors choices) where
  m : Means s d n operations errors choices
  m = accepted-means s d n operations errors choices g.reads

  dim : Dimension d
  dim = dimension d m.dimension-listed

  abbrev N : ℕ
  N = length (ops_in s d n)

  abbrev M : ℕ
  M = measurements_in s d n

  abbrev stages : (from next : ℕ) → State → State
  stages from next st = direct_to d n (ops_in s d n) (errors_in s) (choices_in s) from next st

  abbrev start : State
  start = state_of (rows_in t) results

  -- a call that is not refused
  pub one_call : (from count : ℕ) → from ≤ N + 1
      → go_on_book s from count t results ≡ direct_reached M (next_of N from count) t (stages from (next_of N from count) start)
  unfolding go_on_book direct_by
  one_call from count l = rw (passes-tested s t results g, le-leb from (N + 1) l)

  two_bytes : 2 ≤ length t
  two_bytes = omega (arith, g.room)

  start-valid : Valid d n (rows_in t)
  start-valid = valid-rows t g.room g.for-book

  -- other rows stand behind d and n
  behind-names : (rows : List ℕ) → with_rows t rows ≡ d ∷ n ∷ rows
  unfolding valid_for
  behind-names rows = let q = is-named t (both (names d n t) _ g.for-book).0 in opened t rows two_bytes ∙ rw (q.0, q.1)

  -- what a look at valid rows tells
  looked : (rows : List ℕ) → Valid d n rows → (qudit : ℕ)
      → look_bytes (with_rows t rows) qudit ≡ unless (ltb qudit n) (look_refused 13) (told (look d n rows qudit))
  looked rows v qudit =
      rw (behind-names rows) (look_of d n rows qudit (saved_passes d n rows m.dimension-listed m.qudits-sized v))

  pub looks-at : (qudit : ℕ) → qudit < n → look_bytes t qudit ≡ told (look d n (rows_in t) qudit)
  looks-at qudit l =
      ap (λ (u : List ℕ). look_bytes u qudit) (sym (take-append-drop 2 t)) ∙ looked (rows_in t) start-valid qudit ∙ rw (lt-ltb qudit n l)

  keeps : (from next : ℕ) → Valid d n (stages from next start).rows
  keeps from next = to-keeps-valid d n dim (ops_in s d n) (errors_in s) (choices_in s) m.lists from next start start-valid

  -- the next call is not refused either
  still : (from next : ℕ) → Passes s (with_rows t (stages from next start).rows) (stages from next start).results d n operations errors choices
  still from next =
      let rows = (stages from next start).rows in
      let p = (test-exactly (d ∷ n ∷ rows)).0 (saved_passes d n rows m.dimension-listed m.qudits-sized (keeps from next)) in
      record {
        reads = g.reads;
        room = rw (behind-names rows) p.0;
        results-room = omega (arith, g.results-room, to-results d n (ops_in s d n) (errors_in s) (choices_in s) from next start);
        for-book = rw (behind-names rows) (valid-for (d ∷ n ∷ rows) p.1 refl refl);
      }

module _ (s t results : List ℕ) {d n operations errors choices : ℕ} (g : Passes s t results d n operations errors choices) where
  abbrev N' : ℕ
  N' = length (ops_in s d n)

  -- what the run from number `from` has left that has reached number k
  abbrev here : (from k : ℕ) → DirectLeft
  here from k =
      direct_reached (measurements_in s d n) k t (direct_to d n (ops_in s d n) (errors_in s) (choices_in s) from k (state_of (rows_in t) results))

  further : (from k count : ℕ) → from ≤ k → k ≤ N' + 1
      → go_on_book s k count (here from k).tableau (here from k).results ≡ here from (next_of N' k count)
  further from k count a l =
      let next = next_of N' k count in
      let st = direct_to d n (ops_in s d n) (errors_in s) (choices_in s) from k (state_of (rows_in t) results) in
      one_call s (with_rows t st.rows) st.results (still s t results g from k) k count l
      ∙ rw (
        rows_back t st.rows (two_bytes s t results g),
        rows-twice t st.rows (direct_to d n (ops_in s d n) (errors_in s) (choices_in s) k next st).rows (two_bytes s t results g),
        goes-along d n (ops_in s d n) (errors_in s) (choices_in s) (state_of (rows_in t) results) from k next a ((next-is N' k count).on l),
      )

  goes-book : (from one two : ℕ) → from ≤ N' + 1
      → let halted = go_on_book s from one t results in
      go_on_book s halted.next two halted.tableau halted.results ≡ go_on_book s from (one + two) t results
  goes-book from one two l =
      rw (one_call s t results g from one l, one_call s t results g from (one + two) l)
      (further from (next_of N' from one) two ((next-is N' from one).on l) (next-is N' from one).last ∙ ap (here from) (next-next N' from one two))

  acts : (actions : List Action) (r : ℕ) → r ≤ N' + 1 → calls s actions (here 0 r) ≡ here 0 (reaches N' r actions)
  unfolding calls reaches
  acts [] r l = refl
  acts (go_on count ∷ actions) r l = ap (calls s actions) (further 0 r count (omega arith) l) ∙ acts actions (next_of N' r count) (next-is N' r count).last
  acts (look_at qudit ∷ actions) r l = acts actions r l

  -- a number that is reached already
  unmoved : (k : ℕ) → here k k ≡ record { number = 0; place = measurements_in s d n; next = k; tableau = t; results = results }
  unmoved k = rw (stays d n (ops_in s d n) (errors_in s) (choices_in s) (state_of (rows_in t) results) k, take-append-drop 2 t)

  count-is : N' ≡ operations
  count-is = (accepted-means s d n operations errors choices g.reads).operation_count

  pub reached : (actions : List Action) → calls s actions (not_begun (measurements_in s d n) t results) ≡ here 0 (reaches operations 0 actions)
  reached actions = ap (calls s actions) (sym (unmoved 0)) ∙ rw (← count-is) (acts actions 0 (omega arith))

  single : (actions : List Action) → go_on_book s 0 (reaches operations 0 actions) t results ≡ here 0 (reaches operations 0 actions)
  single actions =
      let r = reaches operations 0 actions in
      let l : r ≤ N' + 1 = omega (arith, count-is, reaches-most operations actions 0 (omega arith)) in
      one_call s t results g 0 r (omega arith) ∙ ap (here 0) (next_start N' r l)

  pub finishes : (actions : List Action) → reaches operations 0 actions ≡ finished operations
      → calls s actions (not_begun (measurements_in s d n) t results) ≡ direct_book s t results
  finishes actions f =
      let end : reaches operations 0 actions ≡ finished N' = rw count-is f in
      reached actions
      ∙ rw (end, to-finish d n (ops_in s d n) (errors_in s) (choices_in s) (state_of (rows_in t) results))
      (sym (direct-ended s t results g.reads g.room g.results-room g.for-book))

  stays_here : (from count : ℕ) → from ≤ finished operations → next_of operations from count ≡ from
      → go_on_book s from count t results ≡ record { number = 0; place = measurements_in s d n; next = from; tableau = t; results = results }
  stays_here from count l e =
      one_call s t results g from count (omega (arith, count-is)) ∙ ap (here from) (ap (λ (k : ℕ). next_of k from count) count-is ∙ e) ∙ unmoved from

  whole : (count : ℕ) → 4096 < count → go_on_reached s 0 count t results d n ≡ direct_ended s t results d n
  whole count large =
      let few : N' < count = omega (arith, op-count d n (body_of s 1), (whole-operations s g.reads).1) in
      rw (
        le-leb 0 (N' + 1) (omega arith),
        next-finished N' 0 count (omega arith),
        to-finish d n (ops_in s d n) (errors_in s) (choices_in s) (state_of (rows_in t) results),
      )

  looks-there : (actions : List Action) (qudit : ℕ)
      → look_bytes (here 0 (reaches operations 0 actions)).tableau qudit
      ≡ unless (ltb qudit n) (look_refused 13)
      (told (look d n (direct_to d n (ops_in s d n) (errors_in s) (choices_in s) 0 (reaches operations 0 actions) (state_of (rows_in t) results)).rows qudit))
  looks-there actions qudit = looked s t results g _ (keeps s t results g 0 (reaches operations 0 actions)) qudit

pub calls-reach : CallsReach
calls-reach s d n operations errors choices e t results room results-room for-book actions =
    reached s t results (record { reads = e; room = room; results-room = results-room; for-book = for-book }) actions

pub single_call : SingleCall
single_call s d n operations errors choices e t results room results-room for-book actions =
    let g : Passes s t results d n operations errors choices = record { reads = e; room = room; results-room = results-room; for-book = for-book } in
    reached s t results g actions ∙ sym (single s t results g actions)

pub finished-calls : FinishedCalls
finished-calls s d n operations errors choices e t results room results-room for-book actions f =
    finishes s t results (record { reads = e; room = room; results-room = results-room; for-book = for-book }) actions f

pub nothing_done : NothingDone
nothing_done s d n operations errors choices e t results room results-room for-book from count l q =
    stays_here s t results (record { reads = e; room = room; results-room = results-room; for-book = for-book }) from count l q

pub calls-look : CallsLook
calls-look s d n operations errors choices e t results room results-room for-book actions qudit =
    let g : Passes s t results d n operations errors choices = record { reads = e; room = room; results-room = results-room; for-book = for-book } in
    rw (reached s t results g actions) (looks-there s t results g actions qudit)

pub whole-book : WholeBook
unfolding go_on_book direct_book
whole-book s count t results large =
    left-same s t results (go_on_reached s 0 count t results) (direct_ended s t results) (λ d n o e c g. whole s t results g count large)

-- a call that succeeds has been lent enough
pub goes-on-book : GoesOnBook
unfolding go_on_book
goes-on-book s from one two t results =
    left_cases s t results P (go_on_reached s from one t results)
    (λ number place e h. no_success number e h)
    (λ d n o e c g.
    unless_cases P (leb from (finished (length (ops_in s d n)))) (λ _ h. absurd (omega arith))
    (λ p h. goes-book s t results g from one two (leb-true _ _ p)))
  where
    P : DirectLeft → Type 0
    P left = left.number ≡ 0
        → let halted = go_on_book s from one t results in
        go_on_book s halted.next two halted.tableau halted.results ≡ go_on_book s from (one + two) t results
