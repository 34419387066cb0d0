-- What passes the tests of shape; and what a call returns that goes on with another test behind them.
-- Assumes nothing.
use mathlib.Core.Path.{◌≡◌, refl}
use mathlib.Core.Logic.{◌≢◌}
use mathlib.Core.Bool.{Bool, true, false}
use mathlib.Core.List.{List}
use Prim.Native.Nat.{ℕ, ◌≤◌}
use native.Mathlib.Omega.{arith}
use lib.Dec.{leb}
use lib.ListN.{length}
use borrow.Author.Tests.{leb-true}
use Rattle.modular.specs.Dimension.{listed}
use Rattle.search.specs.Search.{unless}
use Rattle.search.proofs.Search.{unless_cases, met}
use Rattle.tableau.specs.Tableau.{sized}
use Rattle.tableau.proofs.Sized.{sized-most}
use Rattle.saved_tableau.specs.Saved.{tableau_bytes}
use Rattle.saved_tableau.specs.Shape.{shape_number}

pub record Shaped (d n : ℕ) (t : List ℕ) : Type 0 where
  pub dimension : listed d ≡ true
  pub qudits-sized : sized n ≡ true
  pub qudits : n ≤ 64
  pub room : tableau_bytes n ≤ length t
  pub rest_decides : (rest : ℕ) → shape_number d n t rest ≡ rest

module _ (d n : ℕ) (t : List ℕ) where
  pub shaped : (rest : ℕ) → shape_number d n t rest ≡ 0 → Shaped d n t
  shaped rest e =
      let p2 = met (listed d) (λ z. omega arith) e in
      let p3 = met (sized n) (λ z. omega arith) p2.1 in
      let p8 = met (leb (tableau_bytes n) (length t)) (λ z. omega arith) p3.1 in
      record {
        dimension = p2.0;
        qudits-sized = p3.0;
        qudits = sized-most n p3.0;
        room = leb-true _ _ p8.0;
        rest_decides = λ rest. rw (p2.0, p3.0, p8.0);
      }

  -- what holds of 2, 3, 8 and of the rest holds of what the tests give
  pub shape_cases : (P : ℕ → Type 0) (rest : ℕ) → P 2 → P 3 → P 8 → P rest → P (shape_number d n t rest)
  shape_cases P rest two three eight goes =
      unless_cases P (listed d) (λ e. two)
      (λ e. unless_cases P (sized n) (λ e. three) (λ e. unless_cases P (leb (tableau_bytes n) (length t)) (λ e. eight) (λ e. goes)))

  -- a refusal by 2, 3 or 8 stands, whatever would come behind it
  pub unshaped : (rest : ℕ) → shape_number d n t 0 ≢ 0 → shape_number d n t rest ≡ shape_number d n t 0
  unshaped rest = by (listed d) (sized n) (leb (tableau_bytes n) (length t))
    where
      number : Bool → Bool → Bool → ℕ → ℕ
      number a b c r = unless a 2 (unless b 3 (unless c 8 r))

      by : (a b c : Bool) → number a b c 0 ≢ 0 → number a b c rest ≡ number a b c 0
      by false b c z = refl
      by true false c z = refl
      by true true false z = refl
      by true true true z = absurd (z refl)
