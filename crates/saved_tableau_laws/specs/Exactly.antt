-- What the tests of a saved tableau test, exactly. The statements are proved in proofs/.
use Rattle.std.specs.Prelude.{◌≡◌, true, ◌↔◌, List, ℕ, ◌≤◌, length}
use Rattle.modular.specs.Dimension.{listed}
use Rattle.tableau.specs.Tableau.{sized}
use Rattle.validity.specs.Validity.{Valid}
use Rattle.saved_tableau.specs.Saved.{dimension_in, qudits_in, rows_in, tableau_bytes, self_valid}
use Rattle.saved_tableau.specs.Test.{test_number}

-- Both bytes are in range, and the rows are valid for them.
pub record SelfValid (t : List ℕ) : Type 0 where
  pub dimension : listed (dimension_in t) ≡ true
  pub qudits : sized (qudits_in t) ≡ true
  pub rows : Valid (dimension_in t) (qudits_in t) (rows_in t)

abbrev pub SelfValidExactly : Type 0
SelfValidExactly = (t : List ℕ) → tableau_bytes (qudits_in t) ≤ length t → (self_valid t ≡ true) ↔ SelfValid t

-- The tableau test passes exactly the valid tableaus that have all their bytes.
abbrev pub TestExactly : Type 0
TestExactly = (t : List ℕ) → (test_number t ≡ 0) ↔ ((tableau_bytes (qudits_in t) ≤ length t) × (self_valid t ≡ true))
