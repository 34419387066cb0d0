-- The rule of the inverses. The statement is proved in proofs/.
use Rattle.std.specs.Prelude.{◌≡◌, true, ℕ, ◌*◌, ◌%◌, ◌<◌, ◌≤◌}
use Rattle.modular.specs.Dimension.{listed, inverse}

-- x follows the rule of u's inverse: for u from 1 to d−1 it times u leaves 1; it is 0 for 0 and for every u from d up.
pub record InverseRule (d u x : ℕ) : Type 0 where
  pub unit : 0 < u → u < d → u * x % d ≡ 1
  pub zeroth : u ≡ 0 → x ≡ 0
  pub past : d ≤ u → x ≡ 0

abbrev pub InverseRight : Type 0
InverseRight = (d : ℕ) → listed d ≡ true → (u : ℕ) → InverseRule d u (inverse d u)
