-- A byte stored among the powers leaves those behind them; one below d leaves powers, and as the phase it makes a row of them.
-- Assumes nothing.
use mathlib.Core.Path.{◌≡◌, refl, ◌∙◌}
use mathlib.Core.Logic.{◌≢◌}
use mathlib.Core.List.{List}
use Prim.Native.Nat.{ℕ, ◌+◌, ◌*◌, ◌≤◌, ◌<◌}
use native.Mathlib.Decide.{ℕ_discrete}
use native.Mathlib.Omega.{arith}
use lib.ListN.{length, get_or, set, length-set}
use lib.Seq.{get_or-set_same, get_or-set_other}
use Rattle.row.specs.Row.{Powers, Row}
use Rattle.operation.specs.Gate.{with_phase}

-- w is v from 2n on
pub record Past (n : ℕ) (v w : List ℕ) : Type 0 where
  pub kept : (s : ℕ) → 2 * n ≤ s → get_or w s 0 ≡ get_or v s 0

pub past_same : {n : ℕ} {v : List ℕ} → Past n v v
past_same = record { kept = λ s l. refl }

pub past_store : {n : ℕ} {v w : List ℕ} (i x : ℕ) → i < 2 * n → Past n v w → Past n v (set w i x)
past_store {w = w} i x h p = record { kept = λ s l. get_or-set_other w i s x 0 (λ e. omega arith) ∙ p.kept s l }

-- the byte at s after a store: the one stored, or as it was
store_below : {d x : ℕ} (v : List ℕ) (i s : ℕ) → s < length v → x < d → (s ≢ i → get_or v s 0 < d) → get_or (set v i x) s 0 < d
store_below {d} {x} v i s l hx h = by (ℕ_discrete s i)
  where
    by : Dec (s ≡ i) → get_or (set v i x) s 0 < d
    by (yes e) = rw (← e, get_or-set_same v s x 0 l) hx
    by (no e) = rw (get_or-set_other v i s x 0 e) (h e)

pub powers_store : {d n x : ℕ} {v : List ℕ} (i : ℕ) → Powers d n v → x < d → Powers d n (set v i x)
powers_store {x = x} {v = v} i p hx =
    record {
      room = omega (arith, p.room, length-set v i x);
      below = λ s l. store_below v i s (omega (arith, p.room)) hx (λ _. p.below s l);
    }

pub row-phase : {d n r : ℕ} {v : List ℕ} → Powers d n v → length v ≡ 2 * n + 1 → r < d → Row d n (with_phase n r v)
row-phase {n = n} {r = r} {v = v} p l hr =
    record {
      len = length-set v (2 * n) r ∙ l;
      below = λ s h. store_below v (2 * n) s (omega arith) hr (λ e. p.below s (omega arith));
    }
