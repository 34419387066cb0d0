use Rattle.std.specs.Prelude.{Bool, not, List, ℕ, ◌+◌, eqb, get_or}

-- Whether the written shift of stabilizer i is 0.
abbrev pub is_zero : ℕ → List ℕ → ℕ → Bool
is_zero n shifts i = eqb (get_or shifts (n + i) 0) 0

-- Whether a written shift is not 0.
abbrev pub is_shift : ℕ → Bool
is_shift s = not (eqb s 0)
