-- Rows that are moved to their places, from the last to the first.
-- Assumes nothing.
use mathlib.Core.Path.{◌≡◌, refl, sym, ap, ◌∙◌}
use mathlib.Core.List.{List, ◌∷◌}
use mathlib.Core.Logic.{◌≢◌}
use Prim.Native.Nat.{ℕ, suc, ◌+◌, ◌*◌, ◌<◌, ◌≤◌}
use native.Mathlib.Decide.{ℕ_discrete, dec_lt}
use native.Mathlib.Omega.{arith}
use lib.ListN.{length}
use borrow.Author.Tests.{eq-eqb, ne_eqb}
use Rattle.tableau.specs.Tableau.{put}
use Rattle.tableau.proofs.Parts.{row_in, part_length, put-length, part-put, part-before, part-after}
use Rattle.tray.specs.Tray.{length_at}
use Rattle.tile.specs.Tile.{shot_at}
use Rattle.expand.specs.Expand.{noisy_among, shot_row_of, Expanded, Expanding}
use Rattle.expand.proofs.Noisy.{noisy_one, noisy_all, noisy_each}

module _ (tray : List ℕ) (first : ℕ) (clean : List ℕ) (w : ℕ) where
  -- the row of a shot without errors, and of one that has some
  pub row-clean : (out : List ℕ) (i : ℕ) → length_at tray (first + i) ≡ 0 → shot_row_of tray first clean w out i ≡ 0 ∷ clean
  row-clean out i e = rw (eq-eqb (length_at tray (first + i)) 0 e)

  pub row_noisy : (out : List ℕ) (i : ℕ) → length_at tray (first + i) ≢ 0 → shot_row_of tray first clean w out i ≡ shot_at w out (noisy_among tray first i)
  row_noisy out i e = rw (ne_eqb (length_at tray (first + i)) 0 e)

  pub expanding_none : {k : ℕ} {out : List ℕ} → Expanding tray first clean w k k out out
  expanding_none = record { len = refl; rows = λ j h g. absurd (omega arith); left = λ j h. refl }

  -- one row more
  module _ (wide : w ≡ 1 + length clean) (k i : ℕ) (low : i < k) (out out' : List ℕ) (room : k * w ≤ length out)
      (few : noisy_among tray first (suc i) ≤ i) (a : Expanding tray first clean w k (suc i) out out') where
    same_row : shot_row_of tray first clean w out' i ≡ shot_row_of tray first clean w out i
    same_row = by (ℕ_discrete (length_at tray (first + i)) 0)
      where
        by : Dec (length_at tray (first + i) ≡ 0) → shot_row_of tray first clean w out' i ≡ shot_row_of tray first clean w out i
        by (yes e) = row-clean out' i e ∙ sym (row-clean out i e)
        by (no e) =
            let less : noisy_among tray first i < suc i = omega (arith, noisy_one tray first i e) in
            row_noisy out' i e ∙ a.left (noisy_among tray first i) less ∙ sym (row_noisy out i e)

    inside : i * w + w ≤ length out'
    inside = omega (arith, row_in i k w low, a.len)

    size : length (shot_row_of tray first clean w out' i) ≡ w
    size = by (ℕ_discrete (length_at tray (first + i)) 0)
      where
        by : Dec (length_at tray (first + i) ≡ 0) → length (shot_row_of tray first clean w out' i) ≡ w
        by (yes e) = rw (row-clean out' i e) (omega arith)
        by (no e) =
            let less : noisy_among tray first i < i = omega (arith, noisy_one tray first i e) in
            rw (row_noisy out' i e)
            (part_length (noisy_among tray first i * w) w out' (omega (arith, row_in (noisy_among tray first i) i w less, inside)))

    pub expanding_more : Expanding tray first clean w k i out (put (i * w) w (shot_row_of tray first clean w out' i) out')
    expanding_more =
        record {
          len = put-length (i * w) w (shot_row_of tray first clean w out' i) out' inside size ∙ a.len;
          rows = λ j h g. by j h g (ℕ_discrete j i);
          left = λ j h.
              part-before (j * w) w (i * w) (shot_row_of tray first clean w out' i) out' (row_in j i w h) (omega (arith, inside)) ∙ a.left j (omega arith);
        }
      where
        by : (j : ℕ) → i ≤ j → j < k → Dec (j ≡ i)
            → shot_at w (put (i * w) w (shot_row_of tray first clean w out' i) out') j ≡ shot_row_of tray first clean w out j
        by j h g (yes e) = rw e (part-put (i * w) w (shot_row_of tray first clean w out' i) out' (omega (arith, inside)) size ∙ same_row)
        by j h g (no e) =
            let later : i < j = omega arith in
            part-after (j * w) w (i * w) (shot_row_of tray first clean w out' i) out' (row_in i j w later) inside size ∙ a.rows j later g

  -- the rows before i, all of shots that have errors, stand in their places
  pub expanding_all : (k i : ℕ) (out out' : List ℕ) → i ≤ noisy_among tray first i → Expanding tray first clean w k i out out'
      → Expanded tray first clean w k out out'
  expanding_all k i out out' full a = record { len = a.len; rows = λ j h. by j h (dec_lt j i) }
    where
      by : (j : ℕ) → j < k → Dec (j < i) → shot_at w out' j ≡ shot_row_of tray first clean w out j
      by j h (no l) = a.rows j (omega arith) h
      by j h (yes l) =
          a.left j l
          ∙ ap (shot_at w out) (sym (noisy_all tray first j i (omega arith) full))
          ∙ sym (row_noisy out j (noisy_each tray first j i l full))
