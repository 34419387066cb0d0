-- How the columns come to stand in their places; powers are small.
-- Assumes nothing.
use mathlib.Core.Path.{◌≡◌, ap}
use mathlib.Core.List.{List, []}
use Prim.Native.Nat.{ℕ, ◌+◌, ◌*◌, ◌<◌, ◌≤◌}
use native.Mathlib.Decide.{dec_lt, ℕ_discrete}
use native.Mathlib.Omega.{arith}
use lib.ListN.{length, get_or, set, take, drop, replicate, length-take, length-replicate, get_or-replicate, get_or-eq_default}
use lib.Seq.{get_or-take, get_or-drop, get_or-set_same, get_or-set_other}
use Rattle.row.specs.Row.{Powers}
use Rattle.row.specs.Fill.{filled}
use Rattle.row.proofs.Fill.{filled-get, filled-rest}
use Rattle.tableau.proofs.Parts.{row_in}
use Rattle.dots.specs.Dots.{Small, number}
use Rattle.dots.proofs.Combined.{zero-at}
use Rattle.columns.specs.Columns.{SmallTableau, Laid, power_at}

module _ (n : ℕ) (t : List ℕ) where
  pub laid_none : {c : List (List ℕ)} → c ≡ replicate 128 (replicate 128 0) → Laid n t 0 c
  laid_none {c} e =
      record {
        small = record { most = λ s j. rw e (by s j (dec_lt s 128)) };
        laid = λ s j h l. absurd (omega arith);
      }
    where
      by : (s j : ℕ) → Dec (s < 128) → number (replicate 128 (replicate 128 0)) s j ≤ 30
      by s j (yes l) = rw (get_or-replicate 128 s (replicate {A = ℕ} 128 0) [] l, zero-at 128 j) (omega arith)
      by s j (no l) = rw (get_or-eq_default (replicate 128 (replicate {A = ℕ} 128 0)) [] {n = s} (omega (arith, length-replicate 128 (replicate {A = ℕ} 128 0)))) (omega arith)

  pub power-small : SmallTableau n t → (s j : ℕ) → s < 2 * n → j < 2 * n → power_at n t s j ≤ 30
  power-small h s j p l = omega (arith, h.tableau.below (j * (2 * n + 1) + s) (omega (arith, row_in j (2 * n) (2 * n + 1) l)))

  -- one more column laid
  pub laid_more : (s : ℕ) (c : List (List ℕ)) (v : List ℕ) → SmallTableau n t → s < 2 * n → s < length c → Laid n t s c
      → v ≡ filled (power_at n t s) (get_or c s []) (2 * n) → Laid n t (s + 1) (set c s v)
  laid_more s c v h p room l e =
      record {
        small = record { most = λ a j. small a j (ℕ_discrete a s) (dec_lt j (2 * n)) };
        laid = λ a j q r. laid a j (ℕ_discrete a s) q r;
      }
    where
      here : (j : ℕ) → number (set c s v) s j ≡ get_or v j 0
      here j = ap (λ (x : List ℕ). get_or x j 0) (get_or-set_same c s v [] room)

      other : (a j : ℕ) → ¬ (a ≡ s) → number (set c s v) a j ≡ number c a j
      other a j q = ap (λ (x : List ℕ). get_or x j 0) (get_or-set_other c s a v [] q)

      power : (j : ℕ) → j < 2 * n → get_or v j 0 ≡ power_at n t s j
      power j q = rw e (filled-get (power_at n t s) (get_or c s []) (2 * n) j q)

      small : (a j : ℕ) → Dec (a ≡ s) → Dec (j < 2 * n) → number (set c s v) a j ≤ 30
      small a j (yes q) (yes r) = rw (q, here j, power j r) (power-small h s j p r)
      small a j (yes q) (no r) = rw (q, here j, e, filled-rest (power_at n t s) (get_or c s []) (2 * n) j (omega arith)) (l.small.most s j)
      small a j (no q) r = rw (other a j q) (l.small.most a j)

      laid : (a j : ℕ) → Dec (a ≡ s) → a < s + 1 → j < 2 * n → number (set c s v) a j ≡ power_at n t a j
      laid a j (yes q) k r = rw (q, here j) (power j r)
      laid a j (no q) k r = rw (other a j q) (l.laid a j (omega arith) r)

-- m of a row's powers, from k on
pub small_part : (n k m : ℕ) (v : List ℕ) → Powers 31 n v → k + m ≤ 2 * n → Small (take m (drop k v))
small_part n k m v h l = record { most = λ j. by j (dec_lt j m) }
  where
    by : (j : ℕ) → Dec (j < m) → get_or (take m (drop k v)) j 0 ≤ 30
    by j (yes q) = rw (get_or-take m (drop k v) j 0 q, get_or-drop k v j 0) (omega (arith, h.below (k + j) (omega arith)))
    by j (no q) = omega (arith, get_or-eq_default (take m (drop k v)) 0 {n = j} (omega (arith, length-take m (drop k v))))
