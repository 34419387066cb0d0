-- The layer of the zero tableau.
use Rattle.std.specs.Prelude.{cond, List, ◌∷◌, ℕ, eqb}
use Rattle.zero_tableau.specs.ZeroTableau.{zero_tableau}
use Rattle.saved_tableau.specs.Saved.{rows_in}
use Rattle.saved_tableau.specs.Shape.{shape_number}

-- The layer: 2, 3, 8; a refusal leaves the buffer unchanged. It lays d, n and the zero tableau's rows.
unfoldable pub layer_number : ℕ → ℕ → List ℕ → ℕ
layer_number d n t = shape_number d n t 0

unfoldable pub layer_leaves : ℕ → ℕ → List ℕ → List ℕ
layer_leaves d n t = cond (eqb (layer_number d n t) 0) (d ∷ n ∷ zero_tableau n (rows_in t)) t
