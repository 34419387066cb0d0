-- A loop that changes one row after the other.
-- Assumes nothing.
use mathlib.Core.Path.{◌≡◌, refl, ◌∙◌}
use mathlib.Core.Logic.{◌≢◌}
use mathlib.Core.List.{List}
use Prim.Native.Nat.{ℕ, ◌+◌, ◌*◌, ◌<◌, ◌≤◌}
use native.Mathlib.Decide.{ℕ_discrete, dec_lt}
use native.Mathlib.Omega.{arith}
use lib.ListN.{length}
use Rattle.tableau.specs.Tableau.{put}
use Rattle.tableau.proofs.Parts.{row_in, put-length, part-put, part-before, part-after}
use Rattle.tile.specs.Tile.{shot_at, RowsChanged}

-- the first k rows are changed
pub record Changing (P : ℕ → List ℕ → List ℕ → Type 0) (w used k : ℕ) (out out' : List ℕ) : Type 0 where
  pub len : length out' ≡ length out
  pub done : (l : ℕ) → l < k → P l (shot_at w out l) (shot_at w out' l)
  pub rest : (l : ℕ) → k ≤ l → l < used → shot_at w out' l ≡ shot_at w out l

module _ {P : ℕ → List ℕ → List ℕ → Type 0} where
  pub changing_none : {w used : ℕ} {out : List ℕ} → Changing P w used 0 out out
  changing_none = record { len = refl; done = λ l h. absurd (omega arith); rest = λ l h g. refl }

  -- row k put in its place
  pub changing_more : {w used : ℕ} {out out' : List ℕ} (k : ℕ) (row' : List ℕ) → k < used → used * w ≤ length out → length row' ≡ w
      → Changing P w used k out out' → P k (shot_at w out' k) row' → Changing P w used (k + 1) out (put (k * w) w row' out')
  changing_more {w} {used} {out} {out'} k row' low room size a changed =
      record {
        len = put-length (k * w) w row' out' (fits k low) size ∙ a.len;
        done = λ l h. done l h (ℕ_discrete l k);
        rest = λ l h g. other l (λ e. omega arith) g (dec_lt l k) ∙ a.rest l (omega arith) g;
      }
    where
      fits : (l : ℕ) → l < used → l * w + w ≤ length out'
      fits l g = omega (arith, row_in l used w g, a.len)

      other : (l : ℕ) → l ≢ k → l < used → Dec (l < k) → shot_at w (put (k * w) w row' out') l ≡ shot_at w out' l
      other l e g (yes h) = part-before (l * w) w (k * w) row' out' (row_in l k w h) (omega (arith, fits k low))
      other l e g (no h) = let later : k < l = omega arith in part-after (l * w) w (k * w) row' out' (row_in k l w later) (fits k low) size

      done : (l : ℕ) → l < k + 1 → Dec (l ≡ k) → P l (shot_at w out l) (shot_at w (put (k * w) w row' out') l)
      done l h (yes e) =
          rw (e, part-put (k * w) w row' out' (omega (arith, fits k low)) size) (rw (a.rest k (omega arith) low) at changed)
      done l h (no e) = rw (other l e (omega arith) (dec_lt l k)) (a.done l (omega arith))

  pub changing_all : {w used : ℕ} {out out' : List ℕ} (k : ℕ) → used ≤ k → Changing P w used k out out' → RowsChanged P w used out out'
  changing_all k l a = record { len = a.len; each = λ i h. a.done i (omega arith) }
