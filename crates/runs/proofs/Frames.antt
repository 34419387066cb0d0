-- Frames stay 2n powers below d, and rows with shifted phases stay rows. The worked runs are named so that they are checked first.
-- Assumes nothing.
use mathlib.Core.Path.{◌≡◌, refl, ◌∙◌}
use mathlib.Core.Bool.{Bool, true, false, cond}
use mathlib.Core.List.{List}
use Prim.Native.Nat.{ℕ, zero, suc, ◌+◌, ◌*◌, ◌<◌}
use native.Mathlib.Nat.{mod-lt}
use native.Mathlib.Omega.{arith}
use lib.Dec.{eqb}
use lib.ListN.{length, get_or, replicate, length-set, length-replicate}
use Rattle.row.specs.Row.{Row}
use Rattle.row.proofs.Laws.{powers_of}
use Rattle.tableau.specs.Tableau.{every}
use Rattle.tableau.proofs.Parts.{Keeps}
use Rattle.operation.specs.declared.Operation.{Operation}
use Rattle.operation.specs.declared.WeylError.{WeylError}
use Rattle.operation.specs.Operation.{allowed}
use Rattle.operation.specs.Gate.{gate_frame}
use Rattle.operation.specs.Error.{error_frame}
use Rattle.operation.proofs.Stores.{row-phase, powers_store}
use Rattle.operation.proofs.Gate.{gate-powers-length, gate-powers}
use Rattle.operation.proofs.Error.{error-frame-length, error-powers}
use Rattle.circuit.specs.Circuit.{op_at, err_at, Kind, gate, measures, resets, corrects}
use Rattle.runs.specs.Frame.{Frame, no_frame, errors_on_frame, reset_frame, correct_frame, shift_row}
use Rattle.runs.specs.Raised.{Carry, carry_by}

-- the first frame has no powers; bytes past a list's end count as 0
zeros : (m s : ℕ) → get_or (replicate {A = ℕ} m 0) s 0 ≡ 0
zeros zero s = refl
zeros (suc m) zero = refl
zeros (suc m) (suc s) = zeros m s

pub no-powers : (n s : ℕ) → get_or (no_frame n) s 0 ≡ 0
no-powers n = zeros (2 * n)

module _ (d n : ℕ) (low : 0 < d) where
  pub no-frame : Frame d n (no_frame n)
  no-frame =
      record {
        powers = record { room = omega (arith, none); below = λ s l. omega (arith, no-powers n s) };
        len = none;
      }
    where
      none : length (no_frame n) ≡ 2 * n
      none = length-replicate (2 * n) 0

  pub error-frame : (e : WeylError) (F : List ℕ) → Frame d n F → Frame d n (error_frame d n e F)
  error-frame e F f = record { powers = error-powers d n e F low f.powers; len = error-frame-length d n e F ∙ f.len }

  pub gate-frame : (op : Operation) (F : List ℕ) → allowed d n op ≡ true → Frame d n F → Frame d n (gate_frame d n op F)
  gate-frame op F h f = record { powers = gate-powers d n low op F h f.powers; len = gate-powers-length d n op F ∙ f.len }

  pub errors-on-frame : (errors : List WeylError) (k : ℕ) (F : List ℕ) → Frame d n F → (j : ℕ) → Frame d n (errors_on_frame d n errors k F j)
  unfolding errors_on_frame
  errors-on-frame errors k F f zero = f
  errors-on-frame errors k F f (suc j) = by (eqb (err_at errors j).place k) (errors-on-frame errors k F f j)
    where
      G : List ℕ
      G = errors_on_frame d n errors k F j

      by : (b : Bool) → Frame d n G → Frame d n (cond b (error_frame d n (err_at errors j) G) G)
      by true g = error-frame (err_at errors j) G g
      by false g = g

  pub reset-frame : (q : ℕ) (F : List ℕ) → Frame d n F → Frame d n (reset_frame q F)
  reset-frame q F f = record { powers = powers_store q f.powers low; len = length-set F q 0 ∙ f.len }

  pub correct_frame_lem : (t shift : ℕ) (F : List ℕ) → Frame d n F → Frame d n (correct_frame d t shift F)
  correct_frame_lem t shift F f = record { powers = powers_store t f.powers (mod-lt _ low); len = length-set F t _ ∙ f.len }

  -- what is carried over an operation
  pub carry_frame : (ops : List Operation) (errors : List WeylError) (k : ℕ) (C : Carry) → allowed d n (op_at ops k) ≡ true → Frame d n C.frame → (x : Kind)
      → Frame d n (carry_by d n ops errors k x C).frame
  unfolding carry_by
  carry_frame ops errors k C h f gate = gate-frame (op_at ops k) C.frame h f
  carry_frame ops errors k C h f (measures q) = f
  carry_frame ops errors k C h f (resets q) = reset-frame q C.frame f
  carry_frame ops errors k C h f (corrects t m) = correct_frame_lem t _ C.frame f

module _ (d n : ℕ) (F : List ℕ) where
  pub shift-keeps : Keeps (2 * n + 1) (every (shift_row d n F))
  unfolding shift_row
  shift-keeps = record { keeps = λ i v l. length-set v (2 * n) _ ∙ l }

  pub shift-row : (v : List ℕ) → 0 < d → Row d n v → Row d n (shift_row d n F v)
  unfolding shift_row
  shift-row v low r = row-phase (powers_of r) r.len (mod-lt _ low)
