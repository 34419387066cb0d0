-- A correction in the frames of up to 256 shots, by the results that were reported to them.
use Rattle.std.specs.Prelude.{◌≡◌, cond, List, ℕ, ◌+◌, ◌-◌, ◌*◌, ◌%◌, ◌<◌, ltb, length, get_or}
use Rattle.modular.specs.Modular.{neg}
use Rattle.operation.specs.Gate.{less_x}
use Rattle.lanes.specs.Lanes.{lane}
use Rattle.tile.specs.Tile.{shot_at}

-- the result of lane l in row y of the tile, and that of measurement m in the bytes of its shot
abbrev pub held_in : (tile : List ℕ) (y l : ℕ) → ℕ
held_in tile y l = get_or tile (256 * y + l) 0

abbrev pub written_in : (w : ℕ) (out : List ℕ) (m l : ℕ) → ℕ
written_in w out m l = get_or (shot_at w out l) (1 + 2 * m) 0

-- the first `base` results are written to the shots, the others stand in the tile
unfoldable pub reported_in : (w base : ℕ) (tile out : List ℕ) (m l : ℕ) → ℕ
reported_in w base tile out m l = cond (ltb m base) (written_in w out m l) (held_in tile (m - base) l)

-- Each of the first `used` lanes has lost, from its X power on q, what the reported result is above the clean one r.
pub record Corrected (d n q r used : ℕ) (reported : ℕ → ℕ) (v v' : List ℕ) : Type 0 where
  pub len : length v' ≡ length v
  pub each : (l : ℕ) → l < used → lane n v' l ≡ less_x d q ((reported l + neg d r) % d) (lane n v l)

-- The same, where R says which result a lane has.
pub record CorrectedBy (d n q r used : ℕ) (R : ℕ → ℕ → Type 0) (v v' : List ℕ) : Type 0 where
  pub len : length v' ≡ length v
  pub each : (l : ℕ) → l < used → (x : ℕ) × R l x × (lane n v' l ≡ less_x d q ((x + neg d r) % d) (lane n v l))
