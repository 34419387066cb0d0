-- The weights of up to 16 measurements on their way from 256 lanes to the rows of the sheet: lane 2l has the p weights of row l, lane
-- 2l + 1 its s weights.
use Rattle.std.specs.Prelude.{◌≡◌, List, ℕ, ◌+◌, ◌*◌, ◌<◌, ◌≤◌, length, get_or}

-- weight i of lane l, in a tile and in a transposed tile
abbrev pub in_tile : List ℕ → ℕ → ℕ → ℕ
in_tile tile l i = get_or tile (256 * i + l) 0

abbrev pub by_lanes : List ℕ → ℕ → ℕ → ℕ
by_lanes transposed l i = get_or transposed (16 * l + i) 0

-- Row l, with the t weights of its two lanes written from measurement j on; what comes before them is as it was.
pub record Woven (weight : ℕ → ℕ → ℕ) (j t l : ℕ) (row row' : List ℕ) : Type 0 where
  pub len : length row' ≡ length row
  pub both : (i b : ℕ) → i < t → b < 2 → get_or row' (2 * (j + i) + b) 0 ≡ weight (2 * l + b) i
  pub before : (b : ℕ) → b < 2 * j → get_or row' b 0 ≡ get_or row b 0

-- the weights for the first j measurements are 0
pub record Cleared (j l : ℕ) (row row' : List ℕ) : Type 0 where
  pub len : length row' ≡ length row
  pub none : (b : ℕ) → b < 2 * j → get_or row' b 0 ≡ 0

-- room for `used` rows of w bytes each, two lanes for a row
pub record RowsRoom (w used : ℕ) (out : List ℕ) : Type 0 where
  pub lanes : used ≤ 128
  pub narrow : w < 65536
  pub room : used * w ≤ length out
