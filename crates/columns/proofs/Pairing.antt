-- The sums that a row is given: of a tableau's columns they are the two sums of a pairing.
-- Assumes nothing.
use mathlib.Core.Path.{◌≡◌, refl, sym, ap, ◌∙◌}
use mathlib.Core.List.{List}
use Prim.Native.Nat.{ℕ, zero, suc, ◌+◌, ◌*◌, ◌<◌, ◌≤◌}
use native.Mathlib.Nat.{mul_comm}
use native.Mathlib.Omega.{arith}
use lib.ListN.{get_or, take, drop}
use lib.Seq.{get_or-take, get_or-drop}
use Rattle.row.specs.Row.{dot}
use Rattle.tableau.specs.Tableau.{row}
use Rattle.tableau.proofs.Parts.{row_at}
use Rattle.dots.specs.Dots.{combined, number}
use Rattle.dots.proofs.Combined.{number-part}
use Rattle.columns.specs.Columns.{Laid}

module _ (n : ℕ) (t : List ℕ) (c : List (List ℕ)) (h : Laid n t (2 * n) c) (v : List ℕ) (j : ℕ) (l : j < 2 * n) where
  column_at : (s : ℕ) → s < 2 * n → number c s j ≡ get_or (row n t j) s 0
  column_at s p = h.laid s j p l ∙ sym (row_at n t j s (omega arith))

  -- v's Z powers with the columns of X powers
  pub plus-dot : (m k : ℕ) → n ≤ m → k ≤ n → combined (take m (drop n v)) c j k ≡ dot n v (row n t j) k
  unfolding combined dot
  plus-dot m zero q p = refl
  plus-dot m (suc k) q p =
      let l : k < m = omega arith in
      rw (plus-dot m k q (omega arith), get_or-take m (drop n v) k 0 l, get_or-drop n v k 0, column_at k (omega arith))

  -- v's X powers with the columns of Z powers
  pub minus-dot : (m k : ℕ) → n ≤ m → k ≤ n → combined (take n v) (take m (drop n c)) j k ≡ dot n (row n t j) v k
  unfolding combined dot
  minus-dot m zero q p = refl
  minus-dot m (suc k) q p =
      let l : k < m = omega arith in
      rw (minus-dot m k q (omega arith), get_or-take n v k 0 p, number-part c n m k j l, column_at (n + k) (omega arith))
      (ap (λ (x : ℕ). dot n (row n t j) v k + x) (mul_comm _ _))
