-- Two lists with the same tableau in them: what is done to their rows depends on the tableau alone.
-- Assumes nothing.
use Rattle.std.proofs.Common.{Option, Some, None}
use mathlib.Core.Path.{◌≡◌, refl, sym, ap, ◌∙◌}
use mathlib.Core.Bool.{Bool, true, false, cond}
use mathlib.Core.List.{List}
use Prim.Native.Nat.{ℕ, zero, suc, ◌+◌, ◌*◌, ◌/◌, ◌%◌, ◌≤◌, ◌<◌}
use native.Mathlib.Nat.{mod-lt, div-add-mod', div-lt_iff_lt-mul}
use native.Mathlib.Omega.{arith}
use lib.Dec.{eqb}
use lib.ListN.{length, get_or}
use lib.Seq.{ext_get_or}
use Rattle.modular.specs.Modular.{neg}
use Rattle.row.specs.Row.{x_of, phase_of}
use Rattle.tableau.specs.Tableau.{row, on_rows, every}
use Rattle.tableau.proofs.Parts.{Keeps, row-length, row_at, row_in, on-length, on-at}
use Rattle.operation.specs.declared.Operation.{Operation}
use Rattle.operation.specs.declared.WeylError.{WeylError}
use Rattle.operation.specs.Gate.{gate_row, gate_rows}
use Rattle.operation.specs.Error.{error_row, error_rows}
use Rattle.operation.proofs.Gate.{gate-keeps}
use Rattle.operation.proofs.Error.{error-keeps}
use Rattle.circuit.specs.Circuit.{err_at}
use Rattle.measurement.specs.declared.Look.TheVariants.{Certain}
use Rattle.measurement.specs.Look.{destabilizer_power, pivot_of, weighted, look_by, look}
use Rattle.measurement.proofs.Combination.{combination-same, pivot-same}
use Rattle.measurement.specs.Collapse.{collapse_row, collapse}
use Rattle.measurement.proofs.Collapsed.{collapsed-keeps}
use Rattle.validity.specs.Validity.{Valid}
use Rattle.runs.specs.Direct.{errors_on_rows}

pub record Window (n : ℕ) (t u : List ℕ) : Type 0 where
  pub room : 2 * n * (2 * n + 1) ≤ length t
  pub room' : 2 * n * (2 * n + 1) ≤ length u
  pub rows : (i : ℕ) → i < 2 * n → row n t i ≡ row n u i

module _ (n : ℕ) {t u : List ℕ} where
  pub window_of : 2 * n * (2 * n + 1) ≤ length t → 2 * n * (2 * n + 1) ≤ length u
      → ((i : ℕ) → i < 2 * n * (2 * n + 1) → get_or t i 0 ≡ get_or u i 0)
      → Window n t u
  window_of r r' h =
      record {
        room = r;
        room' = r';
        rows = λ i l.
            ext_get_or 0 (row n t i) (row n u i) (row-length n t r i l ∙ sym (row-length n u r' i l))
            (λ s k.
            let b : s < 2 * n + 1 = omega (arith, row-length n t r i l) in
            row_at n t i s b ∙ h (i * (2 * n + 1) + s) (omega (arith, row_in i (2 * n) (2 * n + 1) l)) ∙ sym (row_at n u i s b));
      }

  pub window_bytes : Window n t u → (k : ℕ) → k < 2 * n * (2 * n + 1) → get_or t k 0 ≡ get_or u k 0
  window_bytes w k l =
      let i = k / (2 * n + 1) in
      let s = k % (2 * n + 1) in
      let b : s < 2 * n + 1 = mod-lt k (omega arith) in
      let q : i * (2 * n + 1) + s ≡ k = div-add-mod' k (2 * n + 1) in
      rw (← q, ← row_at n t i s b, ← row_at n u i s b, w.rows i ((div-lt_iff_lt-mul (omega arith)).1 l))

  module _ (w : Window n t u) where
    -- validity depends on the tableau alone
    pub valid-window : {d : ℕ} → Valid d n t → Valid d n u
    valid-window v =
        record {
          room = w.room';
          below = λ k l. rw (window_bytes w k l) at (v.below k l);
          partners = λ i l. rw (← w.rows (n + i) (omega arith), ← w.rows i (omega arith)) (v.partners i l);
          others = λ i j l h a b. rw (← w.rows i l, ← w.rows j h) (v.others i j l h a b);
        }

    pub window_on : (f : ℕ → List ℕ → List ℕ) → Keeps (2 * n + 1) f → Window n (on_rows n f t) (on_rows n f u)
    window_on f k =
        record {
          room = omega (arith, on-length n f k t w.room, w.room);
          room' = omega (arith, on-length n f k u w.room', w.room');
          rows = λ i l. on-at n f k t w.room i l ∙ ap (f i) (w.rows i l) ∙ sym (on-at n f k u w.room' i l);
        }

    pub window-gate : (d : ℕ) (op : Operation) → Window n (gate_rows d n op t) (gate_rows d n op u)
    window-gate d op = window_on (every (gate_row d n op)) (gate-keeps d n op)

    pub window-error : (d : ℕ) (e : WeylError) → Window n (error_rows d n e t) (error_rows d n e u)
    window-error d e = window_on (every (error_row d n e)) (error-keeps d n e)

    pub window-collapse : (d q k m : ℕ) → 1 < d → k < n → Window n (collapse d n q k m t) (collapse d n q k m u)
    unfolding collapse
    window-collapse d q k m low l =
        rw (w.rows (n + k) (omega arith)) (window_on (collapse_row d n q k m (row n u (n + k))) (collapsed-keeps d n q k m (row n u (n + k)) low))

    pub look-same : (d q : ℕ) → look d n t q ≡ look d n u q
    unfolding look weighted
    look-same d q =
        ap (look_by d n t q) (pivot-same n t u q (λ i l. power (n + i) (omega arith))) ∙ by (pivot_of n u q)
      where
        power : (i : ℕ) → i < 2 * n → x_of (row n t i) q ≡ x_of (row n u i) q
        power i l = ap (λ (v : List ℕ). x_of v q) (w.rows i l)

        by : (p : Option ℕ) → look_by d n t q p ≡ look_by d n u q p
        by (Some k) = refl
        by None =
            ap (λ (v : List ℕ). Certain (neg d (phase_of n v)))
            (combination-same d n t u (destabilizer_power n t q) (destabilizer_power n u q) n (λ i l. power i (omega arith)) (λ i l. w.rows (n + i) (omega arith)))

pub window-errors : (d n : ℕ) (errors : List WeylError) (k : ℕ) {t u : List ℕ} → Window n t u → (j : ℕ) → Window n (errors_on_rows d n errors k t j) (errors_on_rows d n errors k u j)
unfolding errors_on_rows
window-errors d n errors k w zero = w
window-errors d n errors k {t} {u} w (suc j) = by (eqb (err_at errors j).place k) (window-errors d n errors k w j)
  where
    e : WeylError
    e = err_at errors j

    at : List ℕ → List ℕ
    at x = errors_on_rows d n errors k x j

    by : (b : Bool) → Window n (at t) (at u) → Window n (cond b (error_rows d n e (at t)) (at t)) (cond b (error_rows d n e (at u)) (at u))
    by true v = window-error n v d e
    by false v = v
