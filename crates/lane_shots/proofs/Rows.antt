-- What a block writes to a shot's bytes is the clean run with its carried frame added.
-- Assumes nothing.
use mathlib.Core.Path.{◌≡◌, refl, sym, ap, ap₂, ◌∙◌}
use mathlib.Core.List.{List, ◌∷◌}
use Prim.Native.Nat.{ℕ, zero, suc, ◌+◌, ◌*◌, ◌<◌, ◌≤◌}
use native.Mathlib.Omega.{arith}
use lib.ListN.{length, get_or}
use lib.Seq.{ext_get_or}
use Rattle.row.specs.Row.{tab}
use Rattle.row.proofs.Fill.{tab-length, tab-get}
use Rattle.tableau.proofs.Parts.{row_in, part_length}
use Rattle.operation.specs.declared.Operation.{Operation}
use Rattle.operation.specs.declared.WeylError.{WeylError}
use Rattle.circuit.specs.Circuit.{measured}
use Rattle.runs.specs.Direct.{State}
use Rattle.runs.specs.Frame.{no_frame, verdict_of}
use Rattle.runs.specs.Raised.{final_frame, result_shifts}
use Rattle.runs.specs.Carry.{shifted_byte_at}
use Rattle.runs.proofs.Carry.{shifted-byte}
use Rattle.tile.specs.Tile.{shot_at}
use Rattle.block.specs.Carried.{CarriedAll}
use Rattle.block.specs.Block.{NoFrames, AllResults}
use Rattle.verdicts.specs.Verdicts.{shifted_lanes, VerdictsWritten, verdict_in}
use Rattle.shots.specs.Clean.{clean_plus}
use Rattle.lane_shots.specs.LaneShots.{verdict_by, bytes_by, shifted_shots, ShotRows}

module _ (d n : ℕ) (ops : List Operation) (clean : State) (errors : ℕ → List WeylError) (used : ℕ) (out out' : List ℕ)
    (h : AllResults d n ops errors clean.results (1 + 2 * measured ops (length ops)) used out out') (l : ℕ) (low : l < used)
    (room : l * (1 + 2 * measured ops (length ops)) + (1 + 2 * measured ops (length ops)) ≤ length out') where
  abbrev total : ℕ
  total = measured ops (length ops)

  abbrev shot : List ℕ
  shot = shot_at (1 + 2 * total) out' l

  abbrev results : ℕ → ℕ
  results = shifted_byte_at d clean.results (result_shifts d n ops (errors l) (no_frame n))

  byte : (b : ℕ) → b < 2 * total → get_or shot (suc b) 0 ≡ results b
  byte =
      shifted-byte d (result_shifts d n ops (errors l) (no_frame n)) clean.results total (λ b. get_or shot (suc b) 0)
      (λ j g. let p : suc (2 * j) ≡ 1 + 2 * j = omega arith in rw p (h.outcomes l j low g))
      (λ j g. let p : suc (2 * j + 1) ≡ 2 + 2 * j = omega arith in rw p (h.marks_too l j low g))

  row_is : get_or shot 0 0 ≡ verdict_of d n (final_frame d n ops (errors l) (no_frame n)) clean.rows → shot ≡ clean_plus d n ops clean (errors l)
  unfolding clean_plus
  row_is e =
      let len : length shot ≡ 1 + 2 * total = part_length (l * (1 + 2 * total)) (1 + 2 * total) out' room in
      let size : length (tab results (2 * total)) ≡ 2 * total = tab-length results (2 * total) in
      ext_get_or 0 _ _ (omega (arith, len, size)) (λ i g. by i (omega (arith, len)))
    where
      by : (i : ℕ) → i < 1 + 2 * total
          → get_or shot i 0 ≡ get_or (verdict_of d n (final_frame d n ops (errors l) (no_frame n)) clean.rows ∷ tab results (2 * total)) i 0
      by zero g = e
      by (suc b) g = let k : b < 2 * total = omega arith in byte b k ∙ sym (tab-get results (2 * total) b 0 k)

-- the lanes after a block, and their verdicts
module _ (d n : ℕ) (ops : List Operation) (clean : State) (errors : ℕ → List WeylError) (used : ℕ) (v v' : List ℕ)
    (none : NoFrames n v) (few : used ≤ 256) (c : CarriedAll d n ops errors used v v') where
  lane-verdict : (l : ℕ) → l < used → verdict_in d n v' clean.rows l ≡ verdict_by d n ops clean errors l
  lane-verdict l g =
      ap (λ (F : List ℕ). verdict_of d n F clean.rows) (c.each l g ∙ ap (final_frame d n ops (errors l)) (none l (omega arith)))

  shifted-lanes : (k : ℕ) → k ≤ used → shifted_lanes d n v' clean.rows k ≡ shifted_shots d n ops clean errors k
  unfolding shifted_lanes shifted_shots
  shifted-lanes zero g = refl
  shifted-lanes (suc k) g = ap₂ ◌+◌ (shifted-lanes k (omega arith)) (lane-verdict k (omega arith))

  pub shifted-all : shifted_lanes d n v' clean.rows used ≡ shifted_shots d n ops clean errors used
  shifted-all = shifted-lanes used (omega arith)

  module _ (w : ℕ) (width : w ≡ 1 + 2 * measured ops (length ops)) (out mid out' : List ℕ) (room : used * w ≤ length out)
      (a : AllResults d n ops errors clean.results w used out mid)
      (j : VerdictsWritten w used used (verdict_in d n v' clean.rows) mid out') where
    len : length out' ≡ length out
    len = j.len ∙ a.len

    results-after : AllResults d n ops errors clean.results w used out out'
    results-after =
        record {
          len = len;
          outcomes = λ l i g k. j.rest l (1 + 2 * i) g (omega arith) (omega (arith, width)) ∙ a.outcomes l i g k;
          marks_too = λ l i g k. j.rest l (2 + 2 * i) g (omega arith) (omega (arith, width)) ∙ a.marks_too l i g k;
        }

    row-bytes : (l : ℕ) → l < used → shot_at w out' l ≡ bytes_by d n ops clean errors l
    row-bytes l g =
        let r : l * w + w ≤ length out' = omega (arith, row_in l used w g, len, room) in
        wide r results-after (j.first l g ∙ lane-verdict l g)
      where
        wide : l * w + w ≤ length out' → AllResults d n ops errors clean.results w used out out'
            → get_or (shot_at w out' l) 0 0 ≡ verdict_by d n ops clean errors l → shot_at w out' l ≡ bytes_by d n ops clean errors l
        wide = rw width (λ r a e. row_is d n ops clean errors used out out' a l g r e)

    pub shot-rows : ShotRows d n ops clean errors w used out out'
    shot-rows = record { len = len; rows = row-bytes }
