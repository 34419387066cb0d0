-- A measurement is as the look tells.
-- Assumes nothing.
use mathlib.Core.Path.{◌≡◌, refl, sym, ◌∙◌}
use mathlib.Core.Bool.{cond, false≢true}
use mathlib.Core.List.{List}
use Prim.Native.Nat.{ℕ}
use native.Mathlib.Omega.{arith}
use lib.Dec.{eqb, ltb}
use lib.ListN.{get_or}
use borrow.Author.Tests.{eq-eqb}
use Rattle.operation.specs.declared.Operation.TheVariants.{Measure}
use Rattle.search.proofs.Search.{unless_cases}
use Rattle.saved_tableau.specs.Saved.{dimension_in, qudits_in, rows_in}
use Rattle.saved_tableau.specs.Test.{test_number}
use Rattle.measurement.specs.declared.Look.{Look}
use Rattle.measurement.specs.declared.Look.TheVariants.{Free, Certain}
use Rattle.measurement.specs.Look.{look}
use Rattle.look_call.specs.declared.LookAnswer.{LookAnswer}
use Rattle.look_call.specs.LookBytes.{told, look_bytes}
use Rattle.runs.specs.Run.{with_result}
use Rattle.runs.specs.Direct.{State, state_of, direct_look, direct_kind, direct_operation}
use Rattle.halt_laws.specs.Looking.{LookTells}

-- what a measurement leaves, by what a look told
abbrev pub AsTold : (rows choices : List ℕ) (c j : ℕ) (results : List ℕ) → State → LookAnswer → Type 0
AsTold rows choices c j results after seen =
    (after.results ≡ with_result results j (cond (eqb seen.free 1) (get_or choices c 0) seen.outcome) seen.free)
    × (seen.free ≡ 0 → after.rows ≡ rows)
    × (seen.free ≡ 1 → seen.outcome ≡ 0)

pub told-by : (d n : ℕ) (rows : List ℕ) (qudit : ℕ) (choices : List ℕ) (c j : ℕ) (results : List ℕ) (x : Look) → look d n rows qudit ≡ x
    → AsTold rows choices c j results (direct_operation d n choices c j (state_of rows results) (Measure qudit)) (told x)
unfolding direct_kind direct_look
told-by d n rows qudit choices c j results (Free k) e = (rw e, λ z. absurd (omega arith), λ z. refl)
told-by d n rows qudit choices c j results (Certain outcome) e = (rw e, λ z. rw e, λ z. absurd (omega arith))

pub look-tells : LookTells
unfolding look_bytes
look-tells t qudit h choices c j results =
    unless_cases P (eqb (test_number t) 0) (λ e z. absurd (false≢true (sym e ∙ eq-eqb (test_number t) 0 z)))
    (λ e.
    unless_cases P (ltb qudit (qudits_in t)) (λ e z. absurd (omega arith))
    (λ e z. told-by (dimension_in t) (qudits_in t) (rows_in t) qudit choices c j results (look (dimension_in t) (qudits_in t) (rows_in t) qudit) refl))
    h
  where
    P : LookAnswer → Type 0
    P seen = seen.number ≡ 0
        → AsTold (rows_in t) choices c j results (direct_operation (dimension_in t) (qudits_in t) choices c j (state_of (rows_in t) results) (Measure qudit)) seen
