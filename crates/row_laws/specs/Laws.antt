-- The shared facts on rows, each stated over d and n. They are proved in proofs/.
use Rattle.std.specs.Prelude.{◌≡◌, ◌↔◌, List, ℕ, ◌+◌, ◌*◌, ◌%◌, ◌<◌}
use Rattle.modular.specs.Modular.{neg}
use Rattle.modular.specs.Dimension.{Dimension}
use Rattle.row.specs.Row.{Row, product, power, pairing}
use Rattle.row_laws.specs.Scalar.{scalar}

-- The product is associative, and ω^0 leaves a row as it is.
abbrev pub Associative : Type 0
Associative = (d n : ℕ) → 0 < d → (u v w : List ℕ) → product d n (product d n u v) w ≡ product d n u (product d n v w)

abbrev pub Neutral : Type 0
Neutral = (d n : ℕ) (v : List ℕ) → Row d n v → (product d n (scalar n 0) v ≡ v) × (product d n v (scalar n 0) ≡ v)

-- Power 0 is ω^0, power 1 the row itself, and powers add: so power h is the product of h copies.
abbrev pub PowerZero : Type 0
PowerZero = (d n : ℕ) → 0 < d → (v : List ℕ) → power d n 0 v ≡ scalar n 0

abbrev pub PowerOne : Type 0
PowerOne = (d n : ℕ) (v : List ℕ) → Row d n v → power d n 1 v ≡ v

abbrev pub PowersAdd : Type 0
PowersAdd = (d n : ℕ) → 0 < d → (h k : ℕ) (v : List ℕ) → product d n (power d n h v) (power d n k v) ≡ power d n (h + k) v

-- A power depends on its exponent modulo d alone, since d is odd.
abbrev pub PowerModulo : Type 0
PowerModulo = (d n : ℕ) → Dimension d → (h : ℕ) (v : List ℕ) → power d n (h % d) v ≡ power d n h v

-- The pairing is bilinear and alternating.
abbrev pub PairingLeft : Type 0
PairingLeft = (d n : ℕ) → 0 < d → (u v w : List ℕ) → pairing d n (product d n u v) w ≡ (pairing d n u w + pairing d n v w) % d

abbrev pub PairingRight : Type 0
PairingRight = (d n : ℕ) → 0 < d → (u v w : List ℕ) → pairing d n u (product d n v w) ≡ (pairing d n u v + pairing d n u w) % d

abbrev pub PairingPower : Type 0
PairingPower = (d n : ℕ) → 0 < d → (h : ℕ) (v w : List ℕ) → pairing d n (power d n h v) w ≡ h * pairing d n v w % d

abbrev pub PairingSelf : Type 0
PairingSelf = (d n : ℕ) → 0 < d → (v : List ℕ) → pairing d n v v ≡ 0

abbrev pub PairingOpposite : Type 0
PairingOpposite = (d n : ℕ) → 0 < d → (v w : List ℕ) → pairing d n w v ≡ neg d (pairing d n v w)

-- v w is ω to their pairing times w v; so they commute exactly if it is 0.
abbrev pub Exchange : Type 0
Exchange = (d n : ℕ) → 0 < d → (v w : List ℕ)
    → product d n v w ≡ product d n (scalar n (pairing d n v w)) (product d n w v)

abbrev pub Commute : Type 0
Commute = (d n : ℕ) → 0 < d → (v w : List ℕ) → (product d n v w ≡ product d n w v) ↔ (pairing d n v w ≡ 0)
