-- The tableau test.
use Rattle.std.specs.Prelude.{List, ℕ, leb, length}
use Rattle.search.specs.Search.{unless}
use Rattle.saved_tableau.specs.Saved.{dimension_in, qudits_in, self_valid}
use Rattle.saved_tableau.specs.Shape.{shape_number}

-- The tableau test reads both from the buffer, so it checks 8 for two bytes, then 2, 3, 8 and 9. It changes no byte.
unfoldable pub test_number : List ℕ → ℕ
test_number t = unless (leb 2 (length t)) 8 (shape_number (dimension_in t) (qudits_in t) t (unless (self_valid t) 9 0))
