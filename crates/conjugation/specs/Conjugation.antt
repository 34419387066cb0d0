-- Demand 2 for gates and errors: each gate acts as its published conjugation table says, and an error as conjugation by its X^p Z^s.
-- The statements are proved in proofs/.
use Rattle.std.specs.Prelude.{◌≡◌, true, List, ℕ, ◌+◌, ◌*◌, ◌%◌, ◌<◌, get_or, take}
use Rattle.modular.specs.Dimension.{Dimension}
use Rattle.row.specs.Row.{Row, Powers, phase_of, product, pairing}
use Rattle.row_laws.specs.Scalar.{scalar}
use Rattle.operation.specs.declared.Operation.{Operation}
use Rattle.operation.specs.declared.WeylError.{WeylError}
use Rattle.operation.specs.Operation.{allowed}
use Rattle.operation.specs.Gate.{with_phase, gate_row, gate_frame}
use Rattle.operation.specs.Error.{error_allowed, error_row, error_frame}
use Rattle.conjugation.specs.Generators.{x_on, z_on, operator, spelled}
use Rattle.conjugation.specs.Published.{image_x, image_z}

-- Every row is the product that it means.
abbrev pub RowSpelled : Type 0
RowSpelled = (d n : ℕ) → 1 < d → (v : List ℕ) → Row d n v → spelled d n v n ≡ v

-- a map of rows to rows that keeps the product with its phase
pub record Homomorphism (d n : ℕ) (f : List ℕ → List ℕ) : Type 0 where
  pub rows : (v : List ℕ) → Row d n v → Row d n (f v)
  pub products : (v w : List ℕ) → Row d n v → Row d n w → f (product d n v w) ≡ product d n (f v) (f w)

-- it sends ω and the generators where the tables say
pub record FollowsTable (d n : ℕ) (op : Operation) (f : List ℕ → List ℕ) : Type 0 where
  pub scalars : (r : ℕ) → r < d → f (scalar n r) ≡ scalar n r
  pub on_x : (j : ℕ) → j < n → f (x_on n j) ≡ image_x d n op j
  pub on_z : (j : ℕ) → j < n → f (z_on n j) ≡ image_z d n op j

-- A gate is such a map, and the only one: on every row.
abbrev pub GateConjugates : Type 0
GateConjugates = (d n : ℕ) → Dimension d → (op : Operation) → allowed d n op ≡ true
    → Homomorphism d n (gate_row d n op) × FollowsTable d n op (gate_row d n op)

abbrev pub GateDetermined : Type 0
GateDetermined = (d n : ℕ) → Dimension d → (op : Operation) → allowed d n op ≡ true
    → (f : List ℕ → List ℕ) → Homomorphism d n f → FollowsTable d n op f
    → (v : List ℕ) → Row d n v → f v ≡ gate_row d n op v

abbrev pub GateKeepsPairing : Type 0
GateKeepsPairing = (d n : ℕ) → Dimension d → (op : Operation) → allowed d n op ≡ true
    → (v w : List ℕ) → Row d n v → Row d n w → pairing d n (gate_row d n op v) (gate_row d n op w) ≡ pairing d n v w

-- The frame map is the row map on powers.
abbrev pub GateOnFrame : Type 0
GateOnFrame = (d n : ℕ) (op : Operation) → allowed d n op ≡ true
    → (v : List ℕ) → Row d n v → take (2 * n) (gate_row d n op v) ≡ gate_frame d n op (take (2 * n) v)

-- Error times row is the row after the error, times error, and that row's phase has gained the pairing of the error with the row.
abbrev pub ErrorConjugates : Type 0
ErrorConjugates = (d n : ℕ) → Dimension d → (e : WeylError) → error_allowed d n e ≡ true
    → (v : List ℕ) → Row d n v → product d n (operator d n e) v ≡ product d n (error_row d n e v) (operator d n e)

abbrev pub ErrorPairs : Type 0
ErrorPairs = (d n : ℕ) → Dimension d → (e : WeylError) → error_allowed d n e ≡ true
    → (v : List ℕ) → Row d n v → error_row d n e v ≡ with_phase n ((phase_of n v + pairing d n (operator d n e) v) % d) v

-- A frame gains the error's powers, and so its pairing with any row gains the error's.
abbrev pub ErrorOnFrame : Type 0
ErrorOnFrame = (d n : ℕ) → Dimension d → (e : WeylError) → error_allowed d n e ≡ true
    → (F : List ℕ) → Powers d n F → (s : ℕ) → s < 2 * n
    → get_or (error_frame d n e F) s 0 ≡ (get_or F s 0 + get_or (operator d n e) s 0) % d

abbrev pub ErrorFramePairs : Type 0
ErrorFramePairs = (d n : ℕ) → Dimension d → (e : WeylError) → error_allowed d n e ≡ true
    → (F : List ℕ) → Powers d n F → (v : List ℕ)
    → pairing d n (error_frame d n e F) v ≡ (pairing d n F v + pairing d n (operator d n e) v) % d
