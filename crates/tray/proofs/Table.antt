-- What the table of a tray says.
-- Assumes nothing.
use mathlib.Core.Path.{◌≡◌, refl, sym, subst}
use mathlib.Core.Bool.{Bool, true, false}
use mathlib.Core.List.{List}
use Prim.Native.Nat.{ℕ, zero, suc, ◌+◌, ◌-◌, ◌*◌, ◌<◌, ◌≤◌}
use native.Mathlib.Nat.{le_refl}
use native.Mathlib.Omega.{arith}
use lib.ListN.{length}
use borrow.Author.Tests.{leb-true, eqb-true}
use Rattle.search.proofs.Search.{both, all-at}
use Rattle.tray.specs.Tray.{shots_in, length_at, start_of, good_length, table_fits}

-- bodies begin behind the table, each behind the one before it
start-table : (s : List ℕ) (i : ℕ) → 2 + 2 * shots_in s ≤ start_of s i
unfolding start_of
start-table s zero = omega arith
start-table s (suc i) = omega (arith, start-table s i)

start_rises : (s : List ℕ) (i k : ℕ) → start_of s i ≤ start_of s (k + i)
unfolding start_of
start_rises s i zero = let q : 0 + i ≡ i = omega arith in rw q (le_refl (start_of s i))
start_rises s i (suc k) = let q : suc k + i ≡ suc (k + i) = omega arith in rw q (omega (arith, start_rises s i k))

pub record TableFits (s : List ℕ) : Type 0 where
  pub few : shots_in s ≤ 4096
  pub lengths : (i : ℕ) → i < shots_in s → good_length s i ≡ true
  pub ends : start_of s (shots_in s) ≡ length s

pub table_says : (s : List ℕ) → table_fits s ≡ true → TableFits s
unfolding table_fits
table_says s e =
    let a = both _ _ e in
    let b = both _ _ a.1 in
    record { few = leb-true (shots_in s) 4096 a.0; lengths = all-at _ (shots_in s) b.0; ends = eqb-true _ _ b.1 }

pub table_unfit : (s : List ℕ) → (TableFits s → ⊥) → false ≡ table_fits s
table_unfit s never = by (table_fits s) refl
  where
    by : (b : Bool) → table_fits s ≡ b → false ≡ table_fits s
    by true e = absurd (never (table_says s e))
    by false e = sym e

-- body i lies in the tray
pub body-inside : (s : List ℕ) → TableFits s → (i : ℕ) → i < shots_in s → start_of s i + length_at s i ≤ length s
unfolding start_of
body-inside s h i l =
    let q : (shots_in s - suc i) + suc i ≡ shots_in s = omega arith in
    let r : start_of s (suc i) ≤ start_of s (shots_in s) = subst (λ (x : ℕ). start_of s (suc i) ≤ start_of s x) q (start_rises s (suc i) (shots_in s - suc i)) in
    omega (arith, r, h.ends)

-- the table lies in the tray
pub table-inside : (s : List ℕ) → TableFits s → 2 + 2 * shots_in s ≤ length s
table-inside s h = omega (arith, start-table s (shots_in s), h.ends)
