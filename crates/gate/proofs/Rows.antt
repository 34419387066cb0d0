-- Measurement, reset and correction are no gates, and change no row.
-- Assumes nothing.
use mathlib.Core.Path.{◌≡◌, refl, ◌∙◌}
use mathlib.Core.Bool.{true}
use mathlib.Core.List.{List}
use Prim.Native.Nat.{ℕ}
use Rattle.tableau.specs.Tableau.{Tableau, row, every}
use Rattle.tableau.proofs.Parts.{tableau-row, on_none}
use Rattle.operation.specs.declared.Operation.{Operation}
use Rattle.operation.specs.declared.Operation.TheVariants.{Measure, Reset, Correct}
use Rattle.operation.specs.Operation.{allowed}
use Rattle.operation.specs.Gate.{gate_powers, gate_phase, gate_row, gate_rows}
use Rattle.operation.proofs.Gate.{plain, gate-keeps}

module _ (d n : ℕ) (t : List ℕ) (k : Tableau d n t) where
  no-gate : (op : Operation) → ((v : List ℕ) → gate_powers d n op v ≡ v) → ((v : List ℕ) → gate_phase d n op v ≡ 0) → allowed d n op ≡ true
      → gate_rows d n op t ≡ t
  no-gate op same none h =
      on_none n (every (gate_row d n op)) (gate-keeps d n op) t k.room
      (λ i l. plain d n op (row n t i) h (tableau-row d n t k i l) (none _) ∙ same _)

  pub measure_none : (q : ℕ) → allowed d n (Measure q) ≡ true → gate_rows d n (Measure q) t ≡ t
  unfolding gate_powers gate_phase
  measure_none q h = no-gate (Measure q) (λ v. refl) (λ v. refl) h

  pub reset-none : (q : ℕ) → allowed d n (Reset q) ≡ true → gate_rows d n (Reset q) t ≡ t
  unfolding gate_powers gate_phase
  reset-none q h = no-gate (Reset q) (λ v. refl) (λ v. refl) h

  pub correct_none : (q m : ℕ) → allowed d n (Correct q m) ≡ true → gate_rows d n (Correct q m) t ≡ t
  unfolding gate_powers gate_phase
  correct_none q m h = no-gate (Correct q m) (λ v. refl) (λ v. refl) h
