-- Valid rows of a tableau.
use Rattle.std.specs.Prelude.{◌≡◌, Bool, true, cond, ◌&&◌, ◌↔◌, List, ℕ, ◌+◌, ◌*◌, ◌<◌, ◌≤◌, eqb, ltb, length, get_or}
use Rattle.modular.specs.Dimension.{Dimension}
use Rattle.row.specs.Row.{pairing}
use Rattle.search.specs.Search.{all}
use Rattle.tableau.specs.Tableau.{row}

-- A tableau's rows are valid when every byte is below d, stabilizer i paired with destabilizer i gives 1, and any two rows that aren't
-- such partners give 0. Each two rows are paired once, the later with the earlier.
abbrev pub byte_below : ℕ → List ℕ → ℕ → Bool
byte_below d t k = ltb (get_or t k 0) d

abbrev pub pairs_well : ℕ → ℕ → List ℕ → ℕ → ℕ → Bool
pairs_well d n t i j = eqb (pairing d n (row n t i) (row n t j)) (cond (eqb i (n + j)) 1 0)

unfoldable pub row_valid : ℕ → ℕ → List ℕ → ℕ → Bool
row_valid d n t i = all (pairs_well d n t i) i

unfoldable pub valid : ℕ → ℕ → List ℕ → Bool
valid d n t = all (byte_below d t) (2 * n * (2 * n + 1)) && all (row_valid d n t) (2 * n)

-- The same as facts, for rows in either order: partners read in the other order pair to −1, and a row with itself gives 0.
pub record Valid (d n : ℕ) (t : List ℕ) : Type 0 where
  pub room : 2 * n * (2 * n + 1) ≤ length t
  pub below : (k : ℕ) → k < 2 * n * (2 * n + 1) → get_or t k 0 < d
  pub partners : (i : ℕ) → i < n → pairing d n (row n t (n + i)) (row n t i) ≡ 1
  pub others : (i j : ℕ) → i < 2 * n → j < 2 * n → ¬ (i ≡ n + j) → ¬ (j ≡ n + i) → pairing d n (row n t i) (row n t j) ≡ 0

abbrev pub ValidExactly : Type 0
ValidExactly = (d n : ℕ) → Dimension d → (t : List ℕ) → 2 * n * (2 * n + 1) ≤ length t → (valid d n t ≡ true) ↔ Valid d n t
