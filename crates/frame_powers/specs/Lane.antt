-- Frames side by side in w lanes: power s of the frame in lane l stands at byte w·s + l. A frame alone is the only lane of one.
use Rattle.std.specs.Prelude.{◌≡◌, ◌≢◌, List, ℕ, ◌+◌, ◌*◌, ◌<◌, ◌≤◌, length, get_or}
use Rattle.modular.specs.Dimension.{inverse}
use Rattle.row.specs.Row.{Powers, tab}

-- the first k powers in lane l
unfoldable pub frame_in : (w k : ℕ) → List ℕ → ℕ → List ℕ
frame_in w k F l = tab (λ s. get_or F (w * s + l) 0) k

-- lane l holds a frame: 2n powers below d
pub record FrameIn (w d n l : ℕ) (F : List ℕ) : Type 0 where
  pub room : w * (2 * n) ≤ length F
  pub powers : Powers d n (frame_in w (2 * n) F l)

-- f was done to lane l alone, whatever stands in it behind the 2n powers
pub record ChangedIn (w n l : ℕ) (f : List ℕ → List ℕ) (F G : List ℕ) : Type 0 where
  pub len : length G ≡ length F
  pub here : (k : ℕ) → 2 * n ≤ k → frame_in w k G l ≡ f (frame_in w k F l)
  pub others : (s k : ℕ) → k < w → k ≢ l → get_or G (w * s + k) 0 ≡ get_or F (w * s + k) 0

-- w is the inverse of u modulo d
pub record InverseOf (d u w : ℕ) : Type 0 where
  pub below : u < d
  pub inverts : w ≡ inverse d u
  pub small : w < d
