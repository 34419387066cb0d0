-- What undoes a gate, over every d and n. (To `gate_row` a measurement is nothing, and so is what undoes it.) The statements are proved
-- in proofs/.
use Rattle.std.specs.Prelude.{◌≡◌, true, List, ℕ}
use Rattle.modular.specs.Dimension.{Dimension}
use Rattle.row.specs.Row.{Row}
use Rattle.tableau.specs.Tableau.{Tableau}
use Rattle.operation.specs.declared.Operation.{Operation}
use Rattle.operation.specs.Operation.{allowed}
use Rattle.operation.specs.Gate.{gate_row, gate_rows}
use Rattle.mirror_book.specs.Undoing.{undoing}

-- What undoes an allowed operation is allowed.
abbrev pub UndoingAllowed : Type 0
UndoingAllowed = (d n : ℕ) → Dimension d → (op : Operation) → allowed d n op ≡ true → allowed d n (undoing d op) ≡ true

-- It undoes it on every row, and on all rows of a tableau, bytes past them included.
abbrev pub RowUndone : Type 0
RowUndone = (d n : ℕ) → Dimension d → (op : Operation) → allowed d n op ≡ true
    → (v : List ℕ) → Row d n v → gate_row d n (undoing d op) (gate_row d n op v) ≡ v

abbrev pub RowsUndone : Type 0
RowsUndone = (d n : ℕ) → Dimension d → (op : Operation) → allowed d n op ≡ true
    → (t : List ℕ) → Tableau d n t → gate_rows d n (undoing d op) (gate_rows d n op t) ≡ t
