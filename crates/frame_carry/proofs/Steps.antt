-- Frame, results and shifts before step k of a circuit, and after its last errors.
-- Assumes nothing.
use mathlib.Core.Path.{◌≡◌, refl, sym, ap, subst, ◌∙◌}
use mathlib.Core.Bool.{Bool, true, false, cond}
use mathlib.Core.List.{List}
use Prim.Native.Nat.{ℕ, zero, suc, ◌+◌, ◌*◌, ◌<◌, ◌≤◌}
use native.Mathlib.Nat.{le_antisymm}
use native.Mathlib.Decide.{ℕ_discrete}
use native.Mathlib.Numerals.{add-one}
use native.Mathlib.Omega.{arith}
use lib.Dec.{eqb}
use lib.ListN.{length, get_or, set, length-set}
use lib.Seq.{get_or-set_same, get_or-set_other}
use borrow.Author.Tests.{ltb-true}
use Rattle.row.specs.Row.{Powers, x_of}
use Rattle.operation.specs.declared.Operation.{Operation}
use Rattle.operation.specs.declared.WeylError.{WeylError}
use Rattle.operation.specs.Operation.{allowed, named}
use Rattle.operation.specs.Error.{error_frame}
use Rattle.operation.proofs.Error.{error-powers}
use Rattle.circuit.specs.Circuit.{op_at, err_at, Kind, gate, measures, resets, corrects, kind, tally_kind, measured, measurement_count}
use Rattle.runs.specs.declared.Position.{Position}
use Rattle.runs.specs.Reached.{AtStep}
use Rattle.runs.specs.Frame.{errors_on_frame, correct_frame}
use Rattle.runs.specs.Raised.{Carry, carrying, carry_by, frame_before, carry_before, carried, carried_frame, final_frame, result_shifts}
use Rattle.runs.specs.Carry.{with_shifts, reported}
use Rattle.runs.proofs.Taken.{reached-none}
use Rattle.runs.proofs.Results.{is_measure, is_correct, measured-before}
use Rattle.runs.proofs.Shifts.{shift_known, shift_of}
use Rattle.runs.proofs.Carry.{with_none, with_more}
use Rattle.operation_codes.specs.Allowed.{AllAllowed, AllNamed}
use Rattle.frame_carry.specs.Shifted.{Noted, moved_by, shifted_by, noted_by, frame_after, results_after, shifts_after}

-- errors keep powers below d
pub errors-powers : (d n : ℕ) → 0 < d → (errors : List WeylError) (k : ℕ) (G : List ℕ) → Powers d n G → (j : ℕ) → Powers d n (errors_on_frame d n errors k G j)
unfolding errors_on_frame
errors-powers d n low errors k G p zero = p
errors-powers d n low errors k G p (suc j) = by (eqb (err_at errors j).place k) (errors-powers d n low errors k G p j)
  where
    H : List ℕ
    H = errors_on_frame d n errors k G j

    by : (b : Bool) → Powers d n H → Powers d n (cond b (error_frame d n (err_at errors j) H) H)
    by true h = error-powers d n (err_at errors j) H low h
    by false h = h

module _ (d n : ℕ) (ops : List Operation) (errors : List WeylError) (F v : List ℕ) (allows : AllAllowed d n ops) (names : AllNamed ops) where
  abbrev shifts : List ℕ
  shifts = result_shifts d n ops errors F

  -- over the first k operations, from the frame F and the results v
  pub record FrameCarried (k : ℕ) (at : Position) (G w S : List ℕ) : Type 0 where
    pub at-step : AtStep ops errors k at
    pub frame : G ≡ carried_frame d n ops errors F k
    pub results : w ≡ with_shifts d shifts (measured ops k) v
    pub noted : (i : ℕ) → i < measured ops k → get_or S i 0 ≡ get_or shifts i 0

  pub carried_none : (S : List ℕ) (at : Position) → at.entry ≡ 0 → at.measurements ≡ 0 → FrameCarried 0 at F v S
  unfolding measured carried
  carried_none S at first none =
      record {
        at-step = record { reached = rw first (reached-none errors); count = none };
        frame = refl;
        results = sym (with_none d shifts v);
        noted = λ i l. absurd (omega arith);
      }

  abbrev after-errors : ℕ → List ℕ
  after-errors k = frame_before d n ops errors k (carried_frame d n ops errors F k)

  qudit_in : (k q : ℕ) → k < length ops → kind (op_at ops k) ≡ measures q → q < n
  qudit_in k q l e = ltb-true q n (subst (λ (op : Operation). allowed d n op ≡ true) (is_measure (op_at ops k) q e) (allows k l))

  earlier : (k t m : ℕ) → k < length ops → kind (op_at ops k) ≡ corrects t m → m < measured ops k
  earlier k t m l e = ltb-true m (measured ops k) (subst (λ (op : Operation). named (measured ops k) op ≡ true) (is_correct (op_at ops k) t m e) (names k l))

  carried-next : (k : ℕ) → carried d n ops errors 0 (carrying F) (suc k)
      ≡ carry_by d n ops errors (0 + k) (kind (op_at ops (0 + k))) (carry_before d n ops errors (0 + k) (carried d n ops errors 0 (carrying F) k))
  unfolding carried
  carried-next k = refl

  frame_step_lem : (k : ℕ) → carried_frame d n ops errors F (k + 1)
      ≡ (carry_by d n ops errors k (kind (op_at ops k)) (carry_before d n ops errors k (carried d n ops errors 0 (carrying F) k))).frame
  frame_step_lem k =
      let z : 0 + k ≡ k = omega arith in
      ap (λ (i : ℕ). carried_frame d n ops errors F i) (add-one k)
      ∙ ap (λ (C : Carry). C.frame) (carried-next k)
      ∙ ap (λ (i : ℕ). (carry_by d n ops errors i (kind (op_at ops i)) (carry_before d n ops errors i (carried d n ops errors 0 (carrying F) k))).frame) z

  -- the noted shifts are those that are carried
  kind_moves : (k : ℕ) → k < length ops → (S : List ℕ) → ((i : ℕ) → i < measured ops k → get_or S i 0 ≡ get_or shifts i 0)
      → (x : Kind) → kind (op_at ops k) ≡ x → (G : List ℕ)
      → moved_by d n (op_at ops k) x S G
      ≡ (carry_by d n ops errors k x (record { frame = G; shifts = (carried d n ops errors 0 (carrying F) k).shifts })).frame
  unfolding carry_by moved_by
  kind_moves k l S same gate e G = refl
  kind_moves k l S same (measures q) e G = refl
  kind_moves k l S same (resets q) e G = refl
  kind_moves k l S same (corrects t m) e G =
      let h = earlier k t m l e in
      ap (λ (x : ℕ). correct_frame d t x G) (same m h ∙ sym (shift_known d n ops errors F k m (omega arith) h))

  kind-shifts : (k : ℕ) → k < length ops → 2 * measurement_count ops ≤ length v → (x : Kind) → kind (op_at ops k) ≡ x
      → shifted_by d (measured ops k) x (after-errors k) (with_shifts d shifts (measured ops k) v) ≡ with_shifts d shifts (measured ops k + tally_kind x) v
  unfolding shifted_by
  kind-shifts k l room gate e = let q : measured ops k + 0 ≡ measured ops k = omega arith in rw q
  kind-shifts k l room (measures q) e =
      rw (← shift_of d n ops errors F k q l e)
      (with_more d shifts v (measured ops k) (omega (arith, room, measured-before ops k (length ops) q l e)))
  kind-shifts k l room (resets q) e = let z : measured ops k + 0 ≡ measured ops k = omega arith in rw z
  kind-shifts k l room (corrects t m) e = let z : measured ops k + 0 ≡ measured ops k = omega arith in rw z

  kind_notes : (k : ℕ) → k < length ops → (S : List ℕ) → measurement_count ops ≤ length S → ((i : ℕ) → i < measured ops k → get_or S i 0 ≡ get_or shifts i 0)
      → (x : Kind) → kind (op_at ops k) ≡ x
      → (i : ℕ) → i < measured ops k + tally_kind x → get_or (noted_by (measured ops k) x (after-errors k) S) i 0 ≡ get_or shifts i 0
  unfolding noted_by
  kind_notes k l S room same gate e i h = same i (omega arith)
  kind_notes k l S room same (measures q) e i h = by (ℕ_discrete i (measured ops k))
    where
      by : Dec (i ≡ measured ops k) → get_or (set S (measured ops k) (x_of (after-errors k) q)) i 0 ≡ get_or shifts i 0
      by (yes z) =
          rw z
          (get_or-set_same S (measured ops k) (x_of (after-errors k) q) 0 (omega (arith, room, measured-before ops k (length ops) q l e))
          ∙ sym (shift_of d n ops errors F k q l e))
      by (no z) = get_or-set_other S (measured ops k) i (x_of (after-errors k) q) 0 z ∙ same i (omega arith)
  kind_notes k l S room same (resets q) e i h = same i (omega arith)
  kind_notes k l S room same (corrects t m) e i h = same i (omega arith)

  -- powers of a frame, so below d
  kind-below : (k : ℕ) → k < length ops → (S G : List ℕ) → Powers d n G → Noted d (measurement_count ops) (measured ops k) S → (x : Kind) → kind (op_at ops k) ≡ x
      → Noted d (measurement_count ops) (measured ops k + tally_kind x) (noted_by (measured ops k) x G S)
  unfolding noted_by
  kind-below k l S G p h gate e = record { room = h.room; below = λ i a. h.below i (omega arith) }
  kind-below k l S G p h (measures q) e = record { room = omega (arith, h.room, length-set S (measured ops k) (x_of G q)); below = λ i a. by i a (ℕ_discrete i (measured ops k)) }
    where
      by : (i : ℕ) → i < measured ops k + 1 → Dec (i ≡ measured ops k) → get_or (set S (measured ops k) (x_of G q)) i 0 < d
      by i a (yes z) =
          rw (z, get_or-set_same S (measured ops k) (x_of G q) 0 (omega (arith, h.room, measured-before ops k (length ops) q l e)))
          (p.below q (omega (arith, qudit_in k q l e)))
      by i a (no z) = rw (get_or-set_other S (measured ops k) i (x_of G q) 0 z) (h.below i (omega arith))
  kind-below k l S G p h (resets q) e = record { room = h.room; below = λ i a. h.below i (omega arith) }
  kind-below k l S G p h (corrects t m) e = record { room = h.room; below = λ i a. h.below i (omega arith) }

  module _ {k : ℕ} {at : Position} {G w S : List ℕ} (h : FrameCarried k at G w S) where
    pub carried_on : {next : Position} {G' w' S' : List ℕ} → k < length ops → 2 * measurement_count ops ≤ length v → measurement_count ops ≤ length S
        → G' ≡ frame_after d n ops errors k S G
        → w' ≡ results_after d n ops errors k G w
        → S' ≡ shifts_after d n ops errors k G S
        → AtStep ops errors (k + 1) next
        → FrameCarried (k + 1) next G' w' S'
    unfolding measured
    carried_on l room space f r o s =
        record {
          at-step = s;
          frame =
              f
              ∙ kind_moves k l S h.noted (kind (op_at ops k)) refl _
              ∙ ap (λ (X : List ℕ). (carry_by d n ops errors k (kind (op_at ops k)) (record { frame = frame_before d n ops errors k X; shifts = (carried d n ops errors 0 (carrying F) k).shifts })).frame) h.frame
              ∙ sym (frame_step_lem k);
          results = rw (add-one k) (rw (h.frame, h.results) at r ∙ kind-shifts k l room (kind (op_at ops k)) refl);
          noted = rw (add-one k, o, h.frame) (kind_notes k l S space h.noted (kind (op_at ops k)) refl);
        }

    pub noted-on : {next : Position} {S' : List ℕ} → k < length ops → 0 < d → Powers d n G
        → Noted d (measurement_count ops) at.measurements S
        → S' ≡ shifts_after d n ops errors k G S
        → AtStep ops errors (k + 1) next
        → Noted d (measurement_count ops) next.measurements S'
    unfolding measured frame_before
    noted-on l low p z o s = rw (s.count, add-one k, o) (kind-below k l S _ (errors-powers d n low errors k G p (length errors)) (rw h.at-step.count at z) (kind (op_at ops k)) refl)

    pub carried-all : {G' : List ℕ} → k ≤ length ops → length ops ≤ k → G' ≡ errors_on_frame d n errors k G (length errors)
        → (G' ≡ final_frame d n ops errors F) × (w ≡ reported d n ops errors F v)
    unfolding frame_before
    carried-all a b e =
        let q = le_antisymm a b in (
          rw h.frame at e ∙ ap (λ (i : ℕ). errors_on_frame d n errors i (carried_frame d n ops errors F i) (length errors)) q,
          h.results ∙ ap (λ (i : ℕ). with_shifts d shifts (measured ops i) v) q,
        )
