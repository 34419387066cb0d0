-- What keeps a tableau valid. The statements are proved in proofs/.
use Rattle.std.specs.Prelude.{◌≡◌, true, List, ℕ, ◌+◌, ◌*◌, ◌≤◌, length}
use Rattle.modular.specs.Dimension.{Dimension}
use Rattle.operation.specs.declared.Operation.{Operation}
use Rattle.operation.specs.declared.WeylError.{WeylError}
use Rattle.operation.specs.Operation.{allowed}
use Rattle.operation.specs.Gate.{gate_rows}
use Rattle.operation.specs.Error.{error_allowed, error_rows}
use Rattle.zero_tableau.specs.ZeroTableau.{zero_tableau}
use Rattle.validity.specs.Validity.{Valid}

-- The zero tableau is valid, and each gate and error keeps validity.
abbrev pub ZeroValid : Type 0
ZeroValid = (d n : ℕ) → Dimension d → (t : List ℕ) → 2 * n * (2 * n + 1) ≤ length t → Valid d n (zero_tableau n t)

abbrev pub GateKeepsValid : Type 0
GateKeepsValid = (d n : ℕ) → Dimension d → (op : Operation) → allowed d n op ≡ true
    → (t : List ℕ) → Valid d n t → Valid d n (gate_rows d n op t)

abbrev pub ErrorKeepsValid : Type 0
ErrorKeepsValid = (d n : ℕ) → Dimension d → (e : WeylError) → error_allowed d n e ≡ true
    → (t : List ℕ) → Valid d n t → Valid d n (error_rows d n e t)
