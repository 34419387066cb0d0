-- The frame run of an accepted book, by the tests of its buffers.
-- Assumes nothing.
use mathlib.Core.Path.{◌≡◌, sym, ◌∙◌}
use mathlib.Core.Bool.{Bool, true, false}
use mathlib.Core.List.{List}
use Prim.Native.Nat.{ℕ, ◌*◌, ◌≤◌}
use lib.Dec.{leb}
use lib.ListN.{length}
use borrow.Author.Tests.{leb-true}
use Rattle.search.proofs.Search.{both}
use Rattle.validity.specs.Validity.{Valid}
use Rattle.saved_tableau.specs.Saved.{rows_in, tableau_bytes, valid_for}
use Rattle.saved_tableau_laws.proofs.Exactly.{valid-rows}
use Rattle.book.specs.Book.{part_of}
use Rattle.book.proofs.Handed.{Handed}
use Rattle.frame_run.specs.FrameBook.{Buffers, FrameLeft, frame_buffers_fit, Room, frame_refused, frame_bodies, frame_by_answer, frame_book}

pub room_of : (n measurements : ℕ) (lent : Buffers) → frame_buffers_fit n measurements lent ≡ true
    → (tableau_bytes n ≤ length lent.tableau) × Room n measurements lent.results lent.shifts lent.frame
unfolding frame_buffers_fit
room_of n measurements lent e =
    let a = both (leb (tableau_bytes n) (length lent.tableau)) _ e in
    let b = both (leb (2 * measurements) (length lent.results)) _ a.1 in
    let c = both (leb (2 * n) (length lent.shifts)) (leb (2 * n) (length lent.frame)) b.1 in
    (leb-true _ _ a.0, record { results-room = leb-true _ _ b.0; shifts-room = leb-true _ _ c.0; frame-room = leb-true _ _ c.1 })

module _ (s : List ℕ) {d n measurements : ℕ} (g : Handed s d n measurements) (lent : Buffers) where
  -- 8
  pub short-book : {b : Bool} → b ≡ frame_buffers_fit n measurements lent → b ≡ false → frame_refused 8 0 lent ≡ frame_book s lent
  unfolding frame_book frame_by_answer
  short-book {b} r h = rw (g.reads, g.counted, sym r ∙ h)

  -- not 8
  module _ {b : Bool} (r : b ≡ frame_buffers_fit n measurements lent) (h : b ≡ true) where
    fitting : frame_buffers_fit n measurements lent ≡ true
    fitting = sym r ∙ h

    pub rooms : (tableau_bytes n ≤ length lent.tableau) × Room n measurements lent.results lent.shifts lent.frame
    rooms = room_of n measurements lent fitting

    -- 9
    pub invalid-book : {v : Bool} → v ≡ valid_for d n lent.tableau → v ≡ false → frame_refused 9 0 lent ≡ frame_book s lent
    unfolding frame_book frame_by_answer
    invalid-book {v} e k = rw (g.reads, g.counted, fitting, sym e ∙ k)

    -- not 9
    module _ {v : Bool} (e : v ≡ valid_for d n lent.tableau) (k : v ≡ true) where
      tested : valid_for d n lent.tableau ≡ true
      tested = sym e ∙ k

      pub rows : Valid d n (rows_in lent.tableau)
      rows = valid-rows lent.tableau rooms.0 tested

      pub run_book : {left : FrameLeft}
          → left ≡ frame_bodies d n (part_of s 4) (part_of s 10) (part_of s 16) lent
          → left ≡ frame_book s lent
      unfolding frame_book frame_by_answer
      run_book l = rw (g.reads, g.counted, fitting, tested, g.second, g.third, ← g.counted, g.first) l
