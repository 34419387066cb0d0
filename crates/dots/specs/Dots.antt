-- Sums of products, many at a time. The numbers of a column stand side by side, one for each row, so that a factor serves its whole
-- column.
use Rattle.std.specs.Prelude.{◌≡◌, List, [], ℕ, zero, suc, ◌+◌, ◌*◌, ◌<◌, ◌≤◌, get_or}

-- numbers below 31, as powers are
pub record Small (v : List ℕ) : Type 0 where
  pub most : (k : ℕ) → get_or v k 0 ≤ 30

-- the number of row j in column s
abbrev pub number : List (List ℕ) → ℕ → ℕ → ℕ
number c s j = get_or (get_or c s []) j 0

-- columns of such numbers
pub record SmallColumns (c : List (List ℕ)) : Type 0 where
  pub most : (s j : ℕ) → number c s j ≤ 30

-- Σ over the first k factors v, each times the number of row j in its column
unfoldable pub combined : List ℕ → List (List ℕ) → ℕ → ℕ → ℕ
combined v c j zero = 0
combined v c j (suc k) = combined v c j k + get_or v k 0 * number c k j

-- such a sum for each of the first `count` rows
pub record ColumnSums (v : List ℕ) (c : List (List ℕ)) (count k : ℕ) (sums : List ℕ) : Type 0 where
  pub sum : (j : ℕ) → j < count → get_or sums j 0 ≡ combined v c j k
