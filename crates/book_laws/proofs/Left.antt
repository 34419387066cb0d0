-- What the two runs of an accepted book leave, where they are lent enough.
-- Assumes nothing.
use mathlib.Core.Path.{◌≡◌, sym, ◌∙◌}
use mathlib.Core.Bool.{true}
use mathlib.Core.List.{List}
use Prim.Native.Nat.{ℕ, ◌+◌, ◌*◌, ◌<◌, ◌≤◌}
use native.Mathlib.Omega.{arith}
use lib.ListN.{length, get_or, length-drop}
use lib.Seq.{get_or-drop}
use borrow.Author.Tests.{le-leb}
use Rattle.validity.specs.Validity.{Valid}
use Rattle.saved_tableau.specs.Saved.{dimension_in, qudits_in, rows_in, tableau_bytes, valid_for}
use Rattle.saved_tableau_laws.specs.Exactly.{SelfValid}
use Rattle.saved_tableau_laws.proofs.Exactly.{self-valid-exactly, valid-for, valid-rows}
use Rattle.book_body.specs.Body.{accepted}
use Rattle.book.specs.Book.{read_book}
use Rattle.book.specs.Decoded.{ops_in, errors_in, choices_in, measurements_in}
use Rattle.runs.specs.Direct.{state_of}
use Rattle.runs.specs.Frame.{frame_run}
use Rattle.run_laws.proofs.Window.{Window, window_of, valid-window}
use Rattle.direct_book.specs.DirectBook.{direct_ended, direct_by, direct_book}
use Rattle.direct_book.proofs.Tested.{passes-tested}
use Rattle.frame_run.specs.FrameBook.{Buffers, frame_buffers_fit, frame_ended, frame_by_answer, frame_book}
use Rattle.book_laws.specs.Lent.{Lent}

-- the direct run, from any tableau that it takes
pub direct-ended : {d n operations errors choices : ℕ} (s t results : List ℕ) → read_book s ≡ accepted d n operations errors choices
    → tableau_bytes n ≤ length t → 2 * measurements_in s d n ≤ length results → valid_for d n t ≡ true
    → direct_book s t results ≡ direct_ended s t results d n
unfolding direct_book direct_by
direct-ended s t results e room enough valid =
    rw (passes-tested s t results (record { reads = e; room = room; results-room = enough; for-book = valid }))

module _ {d n measurements : ℕ} {t results : List ℕ} {lent : Buffers} (given : Lent d n measurements t results lent) where
  -- the start tableau
  start-for : valid_for d n lent.tableau ≡ true
  start-for = valid-for lent.tableau given.start-valid given.start-dimension given.start-qudits

  pub start : Valid d n (rows_in lent.tableau)
  start = valid-rows lent.tableau given.start-room start-for

  -- the direct run's copy of it: its two bytes and its rows
  pub copied-dimension : dimension_in t ≡ dimension_in lent.tableau
  copied-dimension = given.copied 0 (omega arith)

  pub copied-qudits : qudits_in t ≡ qudits_in lent.tableau
  copied-qudits = given.copied 1 (omega arith)

  pub copied-rows : (i : ℕ) → i < 2 * n * (2 * n + 1) → get_or (rows_in t) i 0 ≡ get_or (rows_in lent.tableau) i 0
  copied-rows i l = get_or-drop 2 t i 0 ∙ given.copied (2 + i) (omega arith) ∙ sym (get_or-drop 2 lent.tableau i 0)

  pub copy_room : 2 * n * (2 * n + 1) ≤ length (rows_in t)
  copy_room = omega (arith, length-drop 2 t, given.copy_room)

  pub window : Window n (rows_in lent.tableau) (rows_in t)
  window = window_of n start.room copy_room (λ i l. sym (copied-rows i l))

  pub copy_for : valid_for d n t ≡ true
  copy_for =
      let h = copied-dimension ∙ given.start-dimension in
      let k = copied-qudits ∙ given.start-qudits in
      let own : SelfValid lent.tableau = (self-valid-exactly lent.tableau (rw given.start-qudits given.start-room)).0 given.start-valid in
      valid-for t
      ((self-valid-exactly t (rw k given.copy_room)).1
      (record {
        dimension = rw copied-dimension own.dimension;
        qudits = rw copied-qudits own.qudits;
        rows = rw (h, k) (valid-window n window start);
      })) h k

  pub direct-left : {operations errors choices : ℕ} (s : List ℕ) → read_book s ≡ accepted d n operations errors choices
      → measurements_in s d n ≡ measurements
      → direct_book s t results ≡ direct_ended s t results d n
  direct-left s e m = direct-ended s t results e given.copy_room (rw m given.direct-results) copy_for

  pub frame-left : {operations errors choices : ℕ} (s : List ℕ) → read_book s ≡ accepted d n operations errors choices
      → measurements_in s d n ≡ measurements
      → frame_book s lent
      ≡ frame_ended (measurements_in s d n) lent.tableau
      (frame_run d n (ops_in s d n) (errors_in s) (choices_in s) (state_of (rows_in lent.tableau) lent.results) lent.shifts lent.frame)
  unfolding frame_book frame_by_answer frame_buffers_fit
  frame-left s e m =
      rw (
        e,
        le-leb (tableau_bytes n) (length lent.tableau) given.start-room,
        le-leb (2 * measurements_in s d n) (length lent.results) (rw m given.frame-results),
        le-leb (2 * n) (length lent.shifts) given.shifts-room,
        le-leb (2 * n) (length lent.frame) given.frame-room,
        start-for,
      )
