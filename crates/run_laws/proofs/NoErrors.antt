-- Without errors the frame has no powers, so choices are not raised and no row is shifted.
-- Assumes nothing.
use mathlib.Core.Path.{◌≡◌, refl, sym, ap, ◌∙◌}
use mathlib.Core.Bool.{Bool, true, cond}
use mathlib.Core.List.{List, [], ◌∷◌, ◌++◌}
use Prim.Native.Nat.{ℕ, zero, suc, ◌+◌, ◌*◌, ◌%◌, ◌<◌, ◌≤◌}
use native.Mathlib.Nat.{add-zero, mod-eq_of_lt, le_refl}
use native.Mathlib.Omega.{arith}
use lib.ListN.{length, get_or, set, take, length-replicate}
use lib.Seq.{take_at, ext_get_or, set-get_or}
use borrow.Author.Tests.{eq-eqb}
use Rattle.modular.specs.Modular.{neg}
use Rattle.modular.specs.Dimension.{Dimension}
use Rattle.row.specs.Row.{x_of, tab, row_of}
use Rattle.row.proofs.Fill.{tab-length, tab-get}
use Rattle.row_laws.specs.Scalar.{scalar}
use Rattle.row_laws.proofs.Reading.{reads-row, reads-scalar}
use Rattle.search.proofs.Search.{all_from}
use Rattle.tableau.specs.Tableau.{row}
use Rattle.operation.specs.declared.Operation.{Operation}
use Rattle.operation.specs.Operation.{allowed}
use Rattle.operation.specs.Gate.{gate_frame}
use Rattle.conjugation.proofs.Gates.{gate-on-frame}
use Rattle.conjugation.proofs.Tables.{gate_conjugates}
use Rattle.circuit.specs.Circuit.{op_at, Kind, gate, measures, resets, corrects, kind}
use Rattle.runs.specs.Direct.{State}
use Rattle.runs.specs.Frame.{no_frame, errors_on_frame, no_shift, verdict_of, frame_run}
use Rattle.runs.specs.Raised.{Carry, carrying, carry_by, frame_before, carried, carried_frame, final_frame, result_shifts, raise_by, choice_raises, raised}
use Rattle.runs.proofs.Frames.{no-powers}
use Rattle.runs.proofs.Shifts.{raised-length, raised_at}
use Rattle.run_laws.proofs.Shift.{pairing-none}
use Rattle.run_laws.proofs.Corrections.{without_none}
use Rattle.run_laws.proofs.Clean.{verdict_of-frame}

-- no powers; bytes past a list's end count as 0
abbrev None : List ℕ → Type 0
None F = (s : ℕ) → get_or F s 0 ≡ 0

end_none : (v : List ℕ) (x : ℕ) → None v → x ≡ 0 → None (v ++ (x ∷ []))
end_none [] x none e zero = e
end_none [] x none e (suc s) = refl
end_none (y ∷ v) x none e zero = none 0
end_none (y ∷ v) x none e (suc s) = end_none v x (λ i. none (suc i)) e s

module _ (d n : ℕ) (dim : Dimension d) where
  low : 0 < d
  low = omega (arith, dim.low)

  -- the first frame: the powers of the row that every gate keeps
  abbrev F : List ℕ
  F = no_frame n

  none : None F
  none = no-powers n

  of_scalar : take (2 * n) (scalar n 0) ≡ F
  unfolding scalar row_of
  of_scalar =
      take_at (tab (λ s. 0) (2 * n)) (0 ∷ []) (2 * n) (tab-length (λ s. 0) (2 * n))
      ∙ ext_get_or 0 _ _ (tab-length (λ s. 0) (2 * n) ∙ sym (length-replicate (2 * n) 0))
      (λ s l. tab-get (λ s. 0) (2 * n) s 0 (omega (arith, tab-length {A = ℕ} (λ s. 0) (2 * n))) ∙ sym (none s))

  -- a power that is there already
  set_same : (q x : ℕ) → get_or F q 0 ≡ x → set F q x ≡ F
  set_same q x e = ap (set F q) (sym e) ∙ set-get_or F q 0

  zero_rest : 0 % d ≡ 0
  zero_rest = mod-eq_of_lt low

  gate-none : (op : Operation) → allowed d n op ≡ true → gate_frame d n op F ≡ F
  gate-none op h =
      rw (← of_scalar)
      (sym (gate-on-frame d n op h (scalar n 0) (reads-row (reads-scalar d n 0 low))) ∙ ap (take (2 * n)) ((gate_conjugates d n dim op h).1.scalars 0 low))

  module _ (ops : List Operation) (good : (k : ℕ) → k < length ops → allowed d n (op_at ops k) ≡ true) where
    -- neither the frame nor any shift has a power
    carried_none : (count : ℕ) → count ≤ length ops → (carried_frame d n ops [] F count ≡ F) × None (carried d n ops [] 0 (carrying F) count).shifts
    unfolding carried carry_by frame_before errors_on_frame
    carried_none zero l = (refl, λ s. refl)
    carried_none (suc m) l = let (same, zeros) = carried_none m (omega arith) in by (kind (op_at ops (0 + m))) same zeros
      where
        C : Carry
        C = carried d n ops [] 0 (carrying F) m

        by : (x : Kind) → C.frame ≡ F → None C.shifts
            → ((carry_by d n ops [] (0 + m) x C).frame ≡ F) × None (carry_by d n ops [] (0 + m) x C).shifts
        by gate same zeros = (rw same (gate-none (op_at ops (0 + m)) (good (0 + m) (omega arith))), zeros)
        by (measures q) same zeros = (same, end_none C.shifts _ zeros (ap (λ (G : List ℕ). x_of G q) same ∙ none q))
        by (resets q) same zeros = (rw same (set_same q 0 (none q)), zeros)
        by (corrects t j) same zeros = (rw (same, zeros j) (set_same t _ (none t ∙ sym (ap (λ (x : ℕ). (x + neg d 0) % d) (none t) ∙ without_none d 0 low ∙ zero_rest))), zeros)

    pub shifts_none : None (result_shifts d n ops [] F)
    shifts_none = (carried_none (length ops) (le_refl (length ops))).1

    raises-none : (count : ℕ) → count ≤ length ops → None (choice_raises d n ops [] 0 (carrying F) count)
    unfolding choice_raises raise_by frame_before errors_on_frame
    raises-none zero l = λ s. refl
    raises-none (suc m) l = by (kind (op_at ops (0 + m))) (raises-none m (omega arith))
      where
        power : (q : ℕ) → x_of (carried_frame d n ops [] F m) q ≡ 0
        power q = ap (λ (G : List ℕ). x_of G q) (carried_none m (omega arith)).0 ∙ none q

        by : (x : Kind) → None (choice_raises d n ops [] 0 (carrying F) m)
            → None (raise_by d n ops [] (0 + m) x (carried_frame d n ops [] F m) (choice_raises d n ops [] 0 (carrying F) m))
        by gate before = before
        by (measures q) before = end_none (choice_raises d n ops [] 0 (carrying F) m) _ before (power q)
        by (resets q) before = end_none (choice_raises d n ops [] 0 (carrying F) m) _ before (power q)
        by (corrects t j) before = before

    -- so no choice below d is raised
    pub raised-none : (choices : List ℕ) → ((j : ℕ) → j < length choices → get_or choices j 0 < d) → raised d n ops [] (no_frame n) choices ≡ choices
    raised-none choices below =
        let same = raised-length d n ops [] F choices in
        ext_get_or 0 _ _ same
        (λ j l.
        let k : j < length choices = omega (arith, same) in
        raised_at d n ops [] F choices j k
        ∙ rw (raises-none (length ops) (le_refl (length ops)) j, add-zero (get_or choices j 0)) (mod-eq_of_lt (below j k)))

    -- and the final frame, which pairs to 0 with every row, gives a clean verdict
    pub final_clean : (t : List ℕ) → verdict_of d n (final_frame d n ops [] (no_frame n)) t ≡ 0
    unfolding verdict_of frame_before errors_on_frame
    final_clean t =
        rw (carried_none (length ops) (le_refl (length ops))).0
        (ap (λ (b : Bool). cond b 0 1)
        (all_from (no_shift d n F t) n (λ i l. eq-eqb _ 0 (pairing-none d n F (row n t (n + i)) low (λ s k. none s)))))

    pub verdict-none : (choices : List ℕ) (st : State) (shifts frame : List ℕ) → (frame_run d n ops [] choices st shifts frame).verdict ≡ 0
    unfolding frame_run
    verdict-none choices st shifts frame = verdict_of-frame d n ops [] choices F st shifts frame ∙ final_clean _
