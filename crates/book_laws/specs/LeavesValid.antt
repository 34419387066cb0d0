-- Validity survives: what the layer and either run leave, if they do not refuse, passes the tableau test, and a run leaves the two bytes
-- before the rows as they are. The statements are proved in proofs/.
use Rattle.std.specs.Prelude.{◌≡◌, List, ℕ, take}
use Rattle.saved_tableau.specs.Layer.{layer_number, layer_leaves}
use Rattle.saved_tableau.specs.Test.{test_number}
use Rattle.direct_book.specs.DirectBook.{direct_book}
use Rattle.direct_book.specs.GoOn.{go_on_book}
use Rattle.frame_run.specs.FrameBook.{Buffers, frame_book}

abbrev pub LayerLeavesValid : Type 0
LayerLeavesValid = (d n : ℕ) (t : List ℕ) → layer_number d n t ≡ 0 → test_number (layer_leaves d n t) ≡ 0

-- what a run left of a tableau passes the test, with the same two bytes
abbrev pub StillPasses : (before after : List ℕ) → Type 0
StillPasses before after = (test_number after ≡ 0) × (take 2 after ≡ take 2 before)

abbrev pub DirectLeavesValid : Type 0
DirectLeavesValid = (s t results : List ℕ) → (direct_book s t results).number ≡ 0 → StillPasses t (direct_book s t results).tableau

abbrev pub GoOnLeavesValid : Type 0
GoOnLeavesValid = (s : List ℕ) (from count : ℕ) (t results : List ℕ) → (go_on_book s from count t results).number ≡ 0
    → StillPasses t (go_on_book s from count t results).tableau

abbrev pub FrameLeavesValid : Type 0
FrameLeavesValid = (s : List ℕ) (lent : Buffers) → (frame_book s lent).number ≡ 0 → StillPasses lent.tableau (frame_book s lent).left.tableau
