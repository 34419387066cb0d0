-- The stabilizer set, and sets that rows generate.
use Rattle.std.specs.Prelude.{◌≡◌, ◌⊎◌, ◌↔◌, List, ℕ, ◌<◌}
use Rattle.modular.specs.Modular.{neg}
use Rattle.row.specs.Row.{product, pairing}
use Rattle.row.specs.Generators.{z_with}
use Rattle.measurement.specs.Look.{combination}

-- The stabilizer set is all d^n products of powers of stabilizer rows: v is one of them.
pub record Stabilizes (d n : ℕ) (t v : List ℕ) : Type 0 where
  pub exponents : ℕ → ℕ
  pub below : (i : ℕ) → i < n → exponents i < d
  pub product_is : v ≡ combination d n t exponents n

-- Two tableaus have the same stabilizer set.
abbrev pub SameSet : (d n : ℕ) → List ℕ → List ℕ → Type 0
SameSet d n t u = (v : List ℕ) → Stabilizes d n t v ↔ Stabilizes d n u v

-- The set that the given rows generate: the least that holds them and is closed under the row product.
pub data Generated (d n : ℕ) (given : List ℕ → Type 0) : List ℕ → Type 0 where
  holds : {v : List ℕ} → given v → Generated d n given v
  times : {v w : List ℕ} → Generated d n given v → Generated d n given w → Generated d n given (product d n v w)

-- the old members that commute with Z on q, and the measured row, Z on q with phase −m
abbrev pub Remaining : (d n : ℕ) → List ℕ → (q m : ℕ) → List ℕ → Type 0
Remaining d n t q m v = (Stabilizes d n t v × (pairing d n (z_with n q 0) v ≡ 0)) ⊎ (v ≡ z_with n q (neg d m))
