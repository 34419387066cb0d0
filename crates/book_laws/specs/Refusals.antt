-- Refusals: the numbers of each call, and that each refusal leaves every buffer unchanged. The statements are proved in proofs/.
use Rattle.std.specs.Prelude.{◌≡◌, true, ◌≢◌, List, [], ◌∷◌, ℕ, ◌<◌}
use Rattle.modular.specs.Dimension.{among}
use Rattle.saved_tableau.specs.Layer.{layer_number, layer_leaves}
use Rattle.saved_tableau.specs.Test.{test_number}
use Rattle.written_book.specs.Writer.{write_book}
use Rattle.look_call.specs.LookBytes.{look_bytes}
use Rattle.direct_book.specs.DirectBook.{direct_book}
use Rattle.direct_book.specs.GoOn.{go_on_book}
use Rattle.frame_run.specs.FrameBook.{Buffers, frame_book}
use Rattle.shots.specs.Shots.{tray_book}
use Rattle.mirror_book.specs.MirrorBook.{mirror_book}

-- Either run: 1 to 7, then 8, then 9; 0 is success.
abbrev pub run_numbers : List ℕ
run_numbers = 0 ∷ 1 ∷ 2 ∷ 3 ∷ 4 ∷ 5 ∷ 6 ∷ 7 ∷ 8 ∷ 9 ∷ []

-- A tray: as a run, and 11.
abbrev pub tray_numbers : List ℕ
tray_numbers = 0 ∷ 1 ∷ 2 ∷ 3 ∷ 4 ∷ 5 ∷ 6 ∷ 7 ∷ 8 ∷ 9 ∷ 11 ∷ []

-- The writer: what the reader would refuse, but for 1, since a written book has its header; then 8.
abbrev pub writer_numbers : List ℕ
writer_numbers = 0 ∷ 2 ∷ 3 ∷ 4 ∷ 5 ∷ 6 ∷ 7 ∷ 8 ∷ []

-- The mirror: 1 to 7, then 12, then 8.
abbrev pub mirror_numbers : List ℕ
mirror_numbers = 0 ∷ 1 ∷ 2 ∷ 3 ∷ 4 ∷ 5 ∷ 6 ∷ 7 ∷ 8 ∷ 12 ∷ []

-- Going on: as a run, and 13. A look: as the tableau test, and 13.
abbrev pub go_on_numbers : List ℕ
go_on_numbers = 0 ∷ 1 ∷ 2 ∷ 3 ∷ 4 ∷ 5 ∷ 6 ∷ 7 ∷ 8 ∷ 9 ∷ 13 ∷ []

abbrev pub look_numbers : List ℕ
look_numbers = 0 ∷ 2 ∷ 3 ∷ 8 ∷ 9 ∷ 13 ∷ []

-- No call returns a number that is not in its list.
pub record NumbersListed : Type 0 where
  pub layer : (d n : ℕ) (t : List ℕ) → among (layer_number d n t) (0 ∷ 2 ∷ 3 ∷ 8 ∷ []) ≡ true
  pub test : (t : List ℕ) → among (test_number t) (0 ∷ 2 ∷ 3 ∷ 8 ∷ 9 ∷ []) ≡ true
  pub writer : (d n : ℕ) (ops errors choices out : List ℕ) → among (write_book d n ops errors choices out).number writer_numbers ≡ true
  pub direct : (s t results : List ℕ) → among (direct_book s t results).number run_numbers ≡ true
  pub go_on : (s : List ℕ) (from count : ℕ) (t results : List ℕ) → among (go_on_book s from count t results).number go_on_numbers ≡ true
  pub look : (t : List ℕ) (qudit : ℕ) → among (look_bytes t qudit).number look_numbers ≡ true
  pub frame : (s : List ℕ) (lent : Buffers) → among (frame_book s lent).number run_numbers ≡ true
  pub tray : (s tray t out : List ℕ) → among (tray_book s tray t out).number tray_numbers ≡ true
  pub mirror : (s out : List ℕ) → among (mirror_book s out).number mirror_numbers ≡ true

-- The writer's 4 names one of the three bodies: the end of a written book is never wrong.
abbrev pub WriterNamesBody : Type 0
WriterNamesBody = (d n : ℕ) (ops errors choices out : List ℕ) → (write_book d n ops errors choices out).number ≡ 4
    → (write_book d n ops errors choices out).place < 3

-- Each refusal leaves every buffer unchanged; the number of the next operation, the frame run's verdict and a tray's third number are then
-- 0. The tableau test and a look write no buffer.
abbrev pub LayerUnchanged : Type 0
LayerUnchanged = (d n : ℕ) (t : List ℕ) → layer_number d n t ≢ 0 → layer_leaves d n t ≡ t

abbrev pub WriterUnchanged : Type 0
WriterUnchanged = (d n : ℕ) (ops errors choices out : List ℕ) → (write_book d n ops errors choices out).number ≢ 0
    → (write_book d n ops errors choices out).out ≡ out

abbrev pub DirectUnchanged : Type 0
DirectUnchanged = (s t results : List ℕ) → (direct_book s t results).number ≢ 0
    → ((direct_book s t results).tableau ≡ t) × ((direct_book s t results).results ≡ results) × ((direct_book s t results).next ≡ 0)

abbrev pub GoOnUnchanged : Type 0
GoOnUnchanged = (s : List ℕ) (from count : ℕ) (t results : List ℕ) → (go_on_book s from count t results).number ≢ 0
    → ((go_on_book s from count t results).tableau ≡ t)
    × ((go_on_book s from count t results).results ≡ results)
    × ((go_on_book s from count t results).next ≡ 0)

-- A look that is refused tells nothing.
abbrev pub LookUntold : Type 0
LookUntold = (t : List ℕ) (qudit : ℕ) → (look_bytes t qudit).number ≢ 0 → ((look_bytes t qudit).free ≡ 0) × ((look_bytes t qudit).outcome ≡ 0)

abbrev pub FrameUnchanged : Type 0
FrameUnchanged = (s : List ℕ) (lent : Buffers) → (frame_book s lent).number ≢ 0
    → ((frame_book s lent).left ≡ lent) × ((frame_book s lent).verdict ≡ 0)

abbrev pub TrayUnchanged : Type 0
TrayUnchanged = (s tray t out : List ℕ) → (tray_book s tray t out).number ≢ 0
    → ((tray_book s tray t out).out ≡ out) × ((tray_book s tray t out).shifted ≡ 0)

abbrev pub MirrorUnchanged : Type 0
MirrorUnchanged = (s out : List ℕ) → (mirror_book s out).number ≢ 0 → (mirror_book s out).out ≡ out
