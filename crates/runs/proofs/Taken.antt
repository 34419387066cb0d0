-- Entries of another place do nothing: so a pointer that moves on through the entries takes the errors of each place.
-- Assumes nothing.
use mathlib.Core.Path.{◌≡◌, refl}
use mathlib.Core.Logic.{◌≢◌}
use mathlib.Core.Bool.{cond}
use mathlib.Core.List.{List}
use Prim.Native.Nat.{ℕ, zero, suc, ◌+◌, ◌-◌, ◌<◌, ◌≤◌}
use native.Mathlib.Nat.{le_refl}
use native.Mathlib.Decide.{ℕ_discrete}
use native.Mathlib.Numerals.{add-one}
use native.Mathlib.Omega.{arith}
use lib.Dec.{eqb}
use lib.ListN.{length}
use borrow.Author.Tests.{eq-eqb, ne_eqb}
use Rattle.operation.specs.declared.WeylError.{WeylError}
use Rattle.operation.specs.Error.{error_rows, error_frame}
use Rattle.circuit.specs.Circuit.{err_at}
use Rattle.runs.specs.Reached.{Reached, Passing}
use Rattle.runs.specs.Direct.{errors_on_rows}
use Rattle.runs.specs.Frame.{errors_on_frame}

-- f j is what the errors of place k among the first j entries make, each by g
pub record Taken (errors : List WeylError) (k : ℕ) (g : WeylError → List ℕ → List ℕ) (f : ℕ → List ℕ) : Type 0 where
  pub turn : (j : ℕ) → f (suc j) ≡ cond (eqb (err_at errors j).place k) (g (err_at errors j) (f j)) (f j)

module _ (d n : ℕ) (errors : List WeylError) (k : ℕ) where
  pub rows_taken : (t : List ℕ) → Taken errors k (error_rows d n) (errors_on_rows d n errors k t)
  unfolding errors_on_rows
  rows_taken t = record { turn = λ j. refl }

  pub frame-taken : (F : List ℕ) → Taken errors k (error_frame d n) (errors_on_frame d n errors k F)
  unfolding errors_on_frame
  frame-taken F = record { turn = λ j. refl }

module _ {errors : List WeylError} {k : ℕ} {g : WeylError → List ℕ → List ℕ} {f : ℕ → List ℕ} (h : Taken errors k g f) where
  pub taken_more : (j : ℕ) → (err_at errors j).place ≡ k → f (j + 1) ≡ g (err_at errors j) (f j)
  taken_more j e = rw (add-one j, h.turn j, eq-eqb (err_at errors j).place k e)

  pub taken_skip : (j i : ℕ) → ((l : ℕ) → j ≤ l → l < j + i → (err_at errors l).place ≢ k) → f (j + i) ≡ f j
  taken_skip j zero e = let q : j + 0 ≡ j = omega arith in rw q
  taken_skip j (suc i) e =
      let q : j + suc i ≡ suc (j + i) = omega arith in
      rw (q, h.turn (j + i), ne_eqb (err_at errors (j + i)).place k (e (j + i) (omega arith) (omega arith)))
      (taken_skip j i (λ l a b. e l a (omega arith)))

  -- those before the first entry of place k, and those after the last
  pub taken-before : {j : ℕ} → Reached errors j k → f j ≡ f 0
  taken-before {j} r = let q : 0 + j ≡ j = omega arith in rw q at (taken_skip 0 j (λ l a b e. omega (arith, r.spent l (omega arith))))

  pub taken-after : {j : ℕ} → Reached errors j (k + 1) → f (length errors) ≡ f j
  taken-after {j} r =
      let q : j + (length errors - j) ≡ length errors = omega (arith, r.inside) in
      rw q at (taken_skip j (length errors - j) (λ l a b e. omega (arith, r.left l a (omega (arith, r.inside)))))

pub reached-none : (errors : List WeylError) → Reached errors 0 0
reached-none errors = record { inside = omega arith; spent = λ i l. absurd (omega arith); left = λ i l m. omega arith }

module _ {errors : List WeylError} {i k : ℕ} where
  pub passing-first : Reached errors i k → Passing errors i k
  passing-first r = record { inside = r.inside; spent = λ l m. omega (arith, r.spent l m); left = r.left }

  pub passing-done : Reached errors i (k + 1) → Passing errors i k
  passing-done r = record { inside = r.inside; spent = λ l m. omega (arith, r.spent l m); left = λ l a b. omega (arith, r.left l a b) }

  pub passing-more : Passing errors i k → i < length errors → (err_at errors i).place ≡ k → Passing errors (i + 1) k
  passing-more p l e =
      record { inside = omega arith; spent = λ j m. by j m (ℕ_discrete j i); left = λ j a b. p.left j (omega arith) b }
    where
      by : (j : ℕ) → j < i + 1 → Dec (j ≡ i) → (err_at errors j).place ≤ k
      by j m (yes q) = rw (q, e) (le_refl k)
      by j m (no q) = p.spent j (omega arith)

  -- places never fall, so the first of another place ends those of place k
  pub passing-other : Passing errors i k → i < length errors → (err_at errors i).place ≢ k
      → ((j l : ℕ) → j ≤ l → l < length errors → (err_at errors j).place ≤ (err_at errors l).place)
      → Reached errors i (k + 1)
  passing-other p l e order =
      let more : k < (err_at errors i).place = omega (arith, p.left i (le_refl i) l, e) in
      record { inside = p.inside; spent = λ j m. omega (arith, p.spent j m); left = λ j a b. omega (arith, order i j a b) }

  pub passing-last : Passing errors i k → length errors ≤ i → Reached errors i (k + 1)
  passing-last p l =
      record { inside = p.inside; spent = λ j m. omega (arith, p.spent j m); left = λ j a b. absurd (omega arith) }
