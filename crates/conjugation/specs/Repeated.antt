-- Powers of a gate in one entry: one step equals its applications made singly. The statements are proved in proofs/.
use Rattle.std.specs.Prelude.{◌≡◌, true, List, ℕ}
use Rattle.modular.specs.Dimension.{Dimension}
use Rattle.row.specs.Row.{Row, Powers}
use Rattle.tableau.specs.Tableau.{Tableau}
use Rattle.operation.specs.declared.Operation.{Operation}
use Rattle.operation.specs.Operation.{allowed}
use Rattle.operation.specs.Gate.{gate_row, gate_rows, gate_frame}
use Rattle.operation.specs.Repeated.{repeated, times_of, once}

-- for a row, for all rows of a tableau, and for a frame
abbrev pub RowRepeats : Type 0
RowRepeats = (d n : ℕ) → Dimension d → (op : Operation) → allowed d n op ≡ true
    → (v : List ℕ) → Row d n v → gate_row d n op v ≡ repeated (gate_row d n (once op)) (times_of op) v

abbrev pub RowsRepeat : Type 0
RowsRepeat = (d n : ℕ) → Dimension d → (op : Operation) → allowed d n op ≡ true
    → (t : List ℕ) → Tableau d n t → gate_rows d n op t ≡ repeated (gate_rows d n (once op)) (times_of op) t

abbrev pub FrameRepeats : Type 0
FrameRepeats = (d n : ℕ) → Dimension d → (op : Operation) → allowed d n op ≡ true
    → (F : List ℕ) → Powers d n F → gate_frame d n op F ≡ repeated (gate_frame d n (once op)) (times_of op) F
