-- A step carries each lane's frame.
-- Assumes nothing.
use mathlib.Core.Path.{◌≡◌, refl, sym, ap, ◌∙◌}
use mathlib.Core.Bool.{true}
use mathlib.Core.List.{List}
use Prim.Native.Nat.{ℕ, ◌+◌, ◌<◌, ◌≤◌}
use native.Mathlib.Numerals.{add-one}
use native.Mathlib.Omega.{arith}
use lib.ListN.{length, get_or}
use borrow.Author.Tests.{ltb-true}
use Rattle.operation.specs.declared.Operation.{Operation}
use Rattle.operation.specs.declared.Operation.TheVariants.{Fourier, PhaseGate, Sum, Cz, Swap, Multiplier, Measure, Reset, Correct}
use Rattle.operation.specs.declared.WeylError.{WeylError}
use Rattle.operation.specs.Operation.{named}
use Rattle.operation.specs.Gate.{gate_frame}
use Rattle.operation_codes.specs.Allowed.{AllNamed}
use Rattle.circuit.specs.Circuit.{op_at, Kind, gate, measures, resets, corrects, kind, measured}
use Rattle.runs.specs.Frame.{errors_on_frame, reset_frame, correct_frame}
use Rattle.runs.specs.Raised.{Carry, carrying, carry_by, frame_before, carry_before, carried, carried_frame, result_shifts}
use Rattle.runs.proofs.Shifts.{shift_known}
use Rattle.lanes.specs.Lanes.{lane}
use Rattle.calendar.specs.Calendar.{AllErrorsApplied}
use Rattle.block.specs.Carried.{CarriedTo, CarriedAll}

-- what an operation does to a frame, by the shifts of all results
abbrev pub step_frame : (d n : ℕ) → Operation → (shifts : List ℕ) → Kind → List ℕ → List ℕ
step_frame d n op shifts gate F = gate_frame d n op F
step_frame d n op shifts (measures q) F = F
step_frame d n op shifts (resets q) F = reset_frame q F
step_frame d n op shifts (corrects t m) F = correct_frame d t (get_or shifts m 0) F

module _ (d n : ℕ) (ops : List Operation) (errors : List WeylError) (F : List ℕ) (k : ℕ) (l : k ≤ length ops) where
  abbrev so_far : Carry
  so_far = carried d n ops errors 0 (carrying F) k

  one_more : carried d n ops errors 0 (carrying F) (k + 1) ≡ carry_by d n ops errors k (kind (op_at ops k)) (carry_before d n ops errors k so_far)
  unfolding carried
  one_more = let q : 0 + k ≡ k = omega arith in rw (add-one k, q)

  abbrev frame : List ℕ
  frame = frame_before d n ops errors k (carried_frame d n ops errors F k)

  -- a correction reads the shift of an earlier measurement
  carry_by_lem : (op : Operation) → named (measured ops k) op ≡ true
      → (carry_by d n ops errors k (kind op) (carry_before d n ops errors k so_far)).frame
      ≡ step_frame d n (op_at ops k) (result_shifts d n ops errors F) (kind op) frame
  unfolding carry_by
  carry_by_lem (Fourier q j) h = refl
  carry_by_lem (PhaseGate q j) h = refl
  carry_by_lem (Sum c t j) h = refl
  carry_by_lem (Cz c t j) h = refl
  carry_by_lem (Swap c t) h = refl
  carry_by_lem (Multiplier q u) h = refl
  carry_by_lem (Measure q) h = refl
  carry_by_lem (Reset q) h = refl
  carry_by_lem (Correct t m) h =
      ap (λ (s : ℕ). correct_frame d t s frame) (shift_known d n ops errors F k m l (ltb-true m (measured ops k) h))

  carried-more : named (measured ops k) (op_at ops k) ≡ true
      → carried_frame d n ops errors F (k + 1) ≡ step_frame d n (op_at ops k) (result_shifts d n ops errors F) (kind (op_at ops k)) frame
  carried-more h = ap (λ (C : Carry). C.frame) one_more ∙ carry_by_lem (op_at ops k) h

pub carried_none : {d n : ℕ} {ops : List Operation} {errors : ℕ → List WeylError} {used : ℕ} {v : List ℕ} → CarriedTo d n ops errors used 0 v v
unfolding carried
carried_none = record { len = refl; each = λ l h. refl }

module _ {d n : ℕ} {ops : List Operation} {errors : ℕ → List WeylError} {used : ℕ} (few : used ≤ 256) where
  pub carried_step : {k : ℕ} {u v w x : List ℕ} → AllNamed ops → k < length ops → CarriedTo d n ops errors used k u v → AllErrorsApplied d n errors k v w
      → length x ≡ length w
      → ((l : ℕ) → l < used → lane n x l ≡ step_frame d n (op_at ops k) (result_shifts d n ops (errors l) (lane n u l)) (kind (op_at ops k)) (lane n w l))
      → CarriedTo d n ops errors used (k + 1) u x
  unfolding frame_before
  carried_step {k} {u} names inside a b e c =
      record {
        len = e ∙ b.len ∙ a.len;
        each = λ l h.
            c l h
            ∙ ap (step_frame d n (op_at ops k) (result_shifts d n ops (errors l) (lane n u l)) (kind (op_at ops k)))
            (b.each l (omega arith) ∙ ap (λ (F : List ℕ). errors_on_frame d n (errors l) k F (length (errors l))) (a.each l h))
            ∙ sym (carried-more d n ops (errors l) (lane n u l) k (omega arith) (names k inside));
      }

  pub carried-end : {u v w : List ℕ} → CarriedTo d n ops errors used (length ops) u v → AllErrorsApplied d n errors (length ops) v w
      → CarriedAll d n ops errors used u w
  unfolding frame_before
  carried-end a b =
      record {
        len = b.len ∙ a.len;
        each = λ l h.
            b.each l (omega arith) ∙ ap (λ (F : List ℕ). errors_on_frame d n (errors l) (length ops) F (length (errors l))) (a.each l h);
      }
