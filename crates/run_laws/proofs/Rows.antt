-- All rows of a tableau shifted by a frame, and what gates, errors and measurements then do.
-- Assumes nothing.
use mathlib.Core.Path.{◌≡◌, refl, sym, ap, ◌∙◌}
use mathlib.Core.Bool.{Bool, true, false, cond}
use mathlib.Core.List.{List}
use Prim.Native.Nat.{ℕ, zero, suc, ◌+◌, ◌*◌, ◌%◌, ◌≤◌, ◌<◌}
use native.Mathlib.Nat.{le_refl}
use native.Mathlib.Omega.{arith}
use lib.Dec.{eqb}
use lib.ListN.{length, get_or}
use lib.Seq.{get_or-set_other}
use Rattle.modular.specs.Modular.{neg}
use Rattle.modular.specs.Dimension.{Dimension, inverse}
use Rattle.row.specs.Row.{Powers, Row, x_of, product, power}
use Rattle.row.proofs.Laws.{power-row}
use Rattle.tableau.specs.Tableau.{Tableau, row, on_rows, every}
use Rattle.tableau.proofs.Parts.{tableau-row, on-at, on-on, on_none, on_one}
use Rattle.operation.specs.declared.Operation.{Operation}
use Rattle.operation.specs.declared.WeylError.{WeylError}
use Rattle.operation.specs.Operation.{allowed}
use Rattle.operation.specs.Gate.{gate_row, gate_rows, gate_frame}
use Rattle.operation.specs.Error.{error_allowed, error_row, error_rows, error_frame}
use Rattle.operation.proofs.Gate.{gate-keeps}
use Rattle.operation.proofs.Error.{error-keeps}
use Rattle.circuit.specs.Circuit.{err_at}
use Rattle.measurement.specs.Look.{destabilizer_power, combination, weighted}
use Rattle.measurement.proofs.Combination.{combination-row}
use Rattle.measurement.specs.Collapse.{collapse_row, collapse}
use Rattle.measurement.proofs.Collapsed.{collapsed-keeps}
use Rattle.runs.specs.Direct.{errors_on_rows}
use Rattle.runs.specs.Frame.{Frame, errors_on_frame, shift_row, shift_rows}
use Rattle.runs.proofs.Frames.{errors-on-frame, shift-keeps}
use Rattle.run_laws.proofs.Shift.{shift_none, shift-product, shift-power, shift-scalar, shift_z, shift-gate, shift-error}

shift-at : (d n : ℕ) (F v : List ℕ) (s : ℕ) → s < 2 * n → get_or (shift_row d n F v) s 0 ≡ get_or v s 0
unfolding shift_row
shift-at d n F v s l = get_or-set_other v (2 * n) s _ 0 (λ e. omega arith)

module _ (d n : ℕ) (F t : List ℕ) (h : Tableau d n t) where
  pub shifted_row : (i : ℕ) → i < 2 * n → row n (shift_rows d n F t) i ≡ shift_row d n F (row n t i)
  shifted_row i l = on-at n (every (shift_row d n F)) (shift-keeps d n F) t h.room i l

  -- the powers stay
  pub shifted_at : (i s : ℕ) → i < 2 * n → s < 2 * n → get_or (row n (shift_rows d n F t) i) s 0 ≡ get_or (row n t i) s 0
  shifted_at i s l k = ap (λ (v : List ℕ). get_or v s 0) (shifted_row i l) ∙ shift-at d n F (row n t i) s k

  pub shifted_none : ((s : ℕ) → s < 2 * n → get_or F s 0 ≡ 0) → shift_rows d n F t ≡ t
  shifted_none e =
      on_none n (every (shift_row d n F)) (shift-keeps d n F) t h.room (λ i l. shift_none d n F e (tableau-row d n t h i l))

  -- A product of powers of the rows is shifted with them.
  combination-shifted : 0 < d → (g g' : ℕ → ℕ) (k : ℕ) → k ≤ n → ((i : ℕ) → i < k → g' i ≡ g i)
      → combination d n (shift_rows d n F t) g' k ≡ shift_row d n F (combination d n t g k)
  unfolding combination
  combination-shifted low g g' zero l e = sym (shift-scalar d n F low)
  combination-shifted low g g' (suc k) l e =
      let c = row n t (n + k) in
      let r = tableau-row d n t h (n + k) (omega arith) in
      rw (combination-shifted low g g' k (omega arith) (λ i x. e i (omega arith)), e k (omega arith), shifted_row (n + k) (omega arith))
      (ap (product d n (shift_row d n F (combination d n t g k))) (shift-power d n F (g k) r)
      ∙ shift-product d n F (combination-row d n t g low k) (power-row d n (g k) c low))

  pub weighted-shifted : 0 < d → (q : ℕ) → q < n → weighted d n (shift_rows d n F t) q ≡ shift_row d n F (weighted d n t q)
  unfolding weighted
  weighted-shifted low q l =
      combination-shifted low (destabilizer_power n t q) (destabilizer_power n (shift_rows d n F t) q) n (le_refl n)
      (λ i k. shifted_at i q (omega arith) (omega arith))

module _ (d n : ℕ) (dim : Dimension d) (F t : List ℕ) (p : Powers d n F) (h : Tableau d n t) where
  pub shifted-gate : (op : Operation) → allowed d n op ≡ true
      → gate_rows d n op (shift_rows d n F t) ≡ shift_rows d n (gate_frame d n op F) (gate_rows d n op t)
  shifted-gate op a =
      on-on n (every (gate_row d n op)) (every (shift_row d n F)) (every (shift_row d n (gate_frame d n op F))) (every (gate_row d n op))
      (gate-keeps d n op)
      (shift-keeps d n F)
      (shift-keeps d n (gate_frame d n op F))
      (gate-keeps d n op)
      t
      h.room
      (λ i l. shift-gate d n dim op a F p (tableau-row d n t h i l))

  pub shifted-error : (e : WeylError) → error_allowed d n e ≡ true → error_rows d n e (shift_rows d n F t) ≡ shift_rows d n (error_frame d n e F) t
  shifted-error e a =
      on_one n (every (error_row d n e)) (every (shift_row d n F)) (every (shift_row d n (error_frame d n e F)))
      (error-keeps d n e)
      (shift-keeps d n F)
      (shift-keeps d n (error_frame d n e F))
      t
      h.room
      (λ i l. shift-error d n dim e a F p (tableau-row d n t h i l))

-- Errors applied to shifted rows are errors taken into the frame.
pub shifted-errors : (d n : ℕ) → Dimension d → (errors : List WeylError) → ((j : ℕ) → j < length errors → error_allowed d n (err_at errors j) ≡ true)
    → (k : ℕ) (F t : List ℕ) → Frame d n F → Tableau d n t → (j : ℕ) → j ≤ length errors
    → errors_on_rows d n errors k (shift_rows d n F t) j ≡ shift_rows d n (errors_on_frame d n errors k F j) t
unfolding errors_on_rows errors_on_frame
shifted-errors d n dim errors a k F t f h zero l = refl
shifted-errors d n dim errors a k F t f h (suc j) l =
    rw (shifted-errors d n dim errors a k F t f h j (omega arith)) (by (eqb (err_at errors j).place k))
  where
    e : WeylError
    e = err_at errors j

    G : List ℕ
    G = errors_on_frame d n errors k F j

    by : (b : Bool) → cond b (error_rows d n e (shift_rows d n G t)) (shift_rows d n G t) ≡ shift_rows d n (cond b (error_frame d n e G) G) t
    by true = shifted-error d n dim G t (errors-on-frame d n (omega (arith, dim.low)) errors k F f j).powers h e (a j (omega arith))
    by false = refl

-- A free measurement of the shifted rows, its choice raised by the frame's X power.
module _ (d n q k m : ℕ) (low : 1 < d) (lq : q < n) (F : List ℕ) where
  abbrev raised : ℕ
  raised = (m + x_of F q) % d

  collapse-row : (i : ℕ) {v w : List ℕ} → Row d n v → Row d n w
      → collapse_row d n q k raised (shift_row d n F v) i (shift_row d n F w) ≡ shift_row d n F (collapse_row d n q k m v i w)
  unfolding collapse_row
  collapse-row i {v} {w} a b =
      rw (shift-at d n F v q (omega arith), shift-at d n F w q (omega arith), shift-power d n F (inverse d (x_of v q)) a, ← shift_z d n F q m lq low, whole)
      (by _ _ _ (eqb i k) (eqb i (n + k)))
    where
      t : ℕ
      t = neg d (x_of w q) * inverse d (x_of v q) % d

      whole : product d n (shift_row d n F w) (power d n t (shift_row d n F v)) ≡ shift_row d n F (product d n w (power d n t v))
      whole = ap (product d n (shift_row d n F w)) (shift-power d n F t a) ∙ shift-product d n F b (power-row d n t v (omega arith))

      by : (A B C : List ℕ) (x y : Bool)
          → cond x (shift_row d n F A) (cond y (shift_row d n F B) (shift_row d n F C)) ≡ shift_row d n F (cond x A (cond y B C))
      by A B C true y = refl
      by A B C false true = refl
      by A B C false false = refl

  pub shifted-collapse : (t : List ℕ) → Tableau d n t → k < n → collapse d n q k raised (shift_rows d n F t) ≡ shift_rows d n F (collapse d n q k m t)
  unfolding collapse
  shifted-collapse t h lk =
      ap (λ (v : List ℕ). on_rows n (collapse_row d n q k raised v) (shift_rows d n F t)) (shifted_row d n F t h (n + k) (omega arith))
      ∙ on-on n (collapse_row d n q k raised (shift_row d n F c)) (every (shift_row d n F)) (every (shift_row d n F)) (collapse_row d n q k m c)
      (collapsed-keeps d n q k raised (shift_row d n F c) low)
      (shift-keeps d n F)
      (shift-keeps d n F)
      (collapsed-keeps d n q k m c low)
      t
      h.room
      (λ i l. collapse-row i (tableau-row d n t h (n + k) (omega arith)) (tableau-row d n t h i l))
    where
      c : List ℕ
      c = row n t (n + k)
