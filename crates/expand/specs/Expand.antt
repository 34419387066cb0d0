-- The rows of shots that have errors, moved to their places among shots that have none.
use Rattle.std.specs.Prelude.{◌≡◌, cond, List, ◌∷◌, ℕ, zero, suc, ◌+◌, ◌*◌, ◌<◌, ◌≤◌, eqb, length}
use Rattle.tray.specs.Tray.{shots_in, length_at}
use Rattle.tile.specs.Tile.{shot_at}

-- how many of k shots, the first of them shot `first`, have errors
unfoldable pub noisy_among : List ℕ → ℕ → ℕ → ℕ
noisy_among s first zero = 0
noisy_among s first (suc k) = noisy_among s first k + cond (eqb (length_at s (first + k)) 0) 0 1

-- The row of shot first + i: the clean run's bytes if it has no errors, else the next of the rows that were filled.
abbrev pub shot_row_of : List ℕ → ℕ → List ℕ → ℕ → List ℕ → ℕ → List ℕ
shot_row_of tray first clean w out i = cond (eqb (length_at tray (first + i)) 0) (0 ∷ clean) (shot_at w out (noisy_among tray first i))

-- k shots of the tray, the first of them shot `first`, and room for a row of each: a verdict and its results
pub record RowsRoom (tray : List ℕ) (first : ℕ) (clean : List ℕ) (w k : ℕ) (out : List ℕ) : Type 0 where
  pub width : w ≡ 1 + length clean
  pub narrow : w < 65536
  pub shots : first + k ≤ shots_in tray
  pub table : 2 + 2 * shots_in tray ≤ length tray
  pub room : k * w ≤ length out

-- every one of k rows stands in its place
pub record Expanded (tray : List ℕ) (first : ℕ) (clean : List ℕ) (w k : ℕ) (out out' : List ℕ) : Type 0 where
  pub len : length out' ≡ length out
  pub rows : (i : ℕ) → i < k → shot_at w out' i ≡ shot_row_of tray first clean w out i

-- the rows from i on stand in their places, and those before are as they were
pub record Expanding (tray : List ℕ) (first : ℕ) (clean : List ℕ) (w k i : ℕ) (out out' : List ℕ) : Type 0 where
  pub len : length out' ≡ length out
  pub rows : (j : ℕ) → i ≤ j → j < k → shot_at w out' j ≡ shot_row_of tray first clean w out j
  pub left : (j : ℕ) → j < i → shot_at w out' j ≡ shot_at w out j
