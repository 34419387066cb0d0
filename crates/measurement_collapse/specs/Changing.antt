-- The rows that are multiplied by a power of the pivot.
use Rattle.std.specs.Prelude.{Bool, not, cond, ◌&&◌, List, [], ◌∷◌, ◌++◌, ℕ, zero, suc, ◌+◌, ◌*◌, eqb, get_or}

-- the numbers below m at which the test holds, in order
unfoldable pub selected : (ℕ → Bool) → ℕ → List ℕ
selected test zero = []
selected test (suc m) = cond (test m) (selected test m ++ (m ∷ [])) (selected test m)

-- f done to the rows at which the test holds
unfoldable pub on_selected : (ℕ → Bool) → (List ℕ → List ℕ) → ℕ → List ℕ → List ℕ
on_selected test f i v = cond (test i) (f v) v

-- every row of t but k and n + k that has an X power on q
abbrev pub is_changing : ℕ → ℕ → ℕ → List ℕ → ℕ → Bool
is_changing n q k t i = (not (eqb i k) && not (eqb i (n + k))) && not (eqb (get_or t (i * (2 * n + 1) + q) 0) 0)
