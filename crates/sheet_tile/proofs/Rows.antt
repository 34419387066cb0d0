-- Bytes of a row in turn from two lanes.
-- Assumes nothing.
use mathlib.Core.Path.{◌≡◌, ap, ◌∙◌}
use mathlib.Core.List.{List}
use Prim.Native.Nat.{ℕ, ◌+◌, ◌*◌, ◌/◌, ◌%◌, ◌<◌, ◌≤◌}
use native.Mathlib.Omega.{arith}
use lib.ListN.{length, get_or}
use Rattle.tile.specs.Tile.{Transposed}
use Rattle.tile.proofs.Bytes.{Run}
use Rattle.sheet_tile.specs.Weave.{in_tile, by_lanes, Woven, RowsRoom}

-- room is kept with the length
pub rows-kept : {w used : ℕ} {out out' : List ℕ} → RowsRoom w used out → length out' ≡ length out → RowsRoom w used out'
rows-kept r e = record { lanes = r.lanes; narrow = r.narrow; room = omega (arith, r.room) }

-- p weight and s weight in turn
abbrev pub woven_bytes : List ℕ → ℕ → ℕ → ℕ
woven_bytes transposed l k = get_or transposed (32 * l + 16 * (k % 2) + k / 2) 0

module _ (transposed : List ℕ) (l i : ℕ) where
  pub woven_even : woven_bytes transposed l (2 * i) ≡ get_or transposed (32 * l + i) 0
  woven_even = let q : 32 * l + 16 * (2 * i % 2) + 2 * i / 2 ≡ 32 * l + i = omega arith in rw q

  pub woven_odd : woven_bytes transposed l (2 * i + 1) ≡ get_or transposed (32 * l + 16 + i) 0
  woven_odd = let q : 32 * l + 16 * ((2 * i + 1) % 2) + (2 * i + 1) / 2 ≡ 32 * l + 16 + i = omega arith in rw q

pub run_woven : (transposed : List ℕ) {F G : List ℕ} (l j t k : ℕ) → 2 * t ≤ k → Run (woven_bytes transposed l) (2 * j) k F G → Woven (by_lanes transposed) j t l F G
run_woven transposed {F} {G} l j t k e h =
    record {
      len = h.len;
      both = λ i b m s.
          let q : 2 * (j + i) + b ≡ 2 * j + (2 * i + b) = omega arith in
          let r : 32 * l + 16 * ((2 * i + b) % 2) + (2 * i + b) / 2 ≡ 16 * (2 * l + b) + i = omega arith in
          rw q (h.done (2 * i + b) (omega arith) ∙ ap (λ (x : ℕ). get_or transposed x 0) r);
      before = h.before;
    }

-- the weights of a transposed tile are those of the tile
pub woven_turned : {tile transposed : List ℕ} {j t l : ℕ} {row row' : List ℕ} → Transposed tile transposed → l < 128 → t ≤ 16
    → Woven (by_lanes transposed) j t l row row' → Woven (in_tile tile) j t l row row'
woven_turned {l = l} a low small h =
    record { len = h.len; both = λ i b m s. h.both i b m s ∙ a.each i (2 * l + b) (omega arith) (omega arith); before = h.before }
