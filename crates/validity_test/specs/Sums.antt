-- A pairing read off its two sums.
use Rattle.std.specs.Prelude.{Bool, cond, List, ℕ, ◌+◌, ◌%◌, eqb, get_or}
use Rattle.modular.specs.Modular.{neg}

-- whether row i pairs well with row j, j being the number of the sums
abbrev pub sums_pair_well : ℕ → ℕ → List ℕ → List ℕ → ℕ → ℕ → Bool
sums_pair_well d n plus minus i j = eqb ((get_or plus j 0 + neg d (get_or minus j 0)) % d) (cond (eqb i (n + j)) 1 0)
