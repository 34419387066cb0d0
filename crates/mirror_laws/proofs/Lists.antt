-- Gates undone one by one from the last, by index: after j operations of the mirror the rows are those before the last j gates. Errors of
-- the first run are the frame that both runs carry.
-- Assumes nothing.
use Rattle.std.proofs.Common.{None}
use mathlib.Core.Path.{◌≡◌, refl, sym, ap, ◌∙◌}
use mathlib.Core.Bool.{true, false≢true}
use mathlib.Core.List.{List, []}
use Prim.Native.Nat.{ℕ, zero, suc, ◌+◌, ◌-◌, ◌<◌, ◌≤◌}
use native.Mathlib.Nat.{le_refl}
use native.Mathlib.Omega.{arith}
use lib.ListN.{length}
use Rattle.modular.specs.Dimension.{Dimension}
use Rattle.search.proofs.Search.{all-good}
use Rattle.row.specs.Row.{tab}
use Rattle.operation.specs.declared.Operation.{Operation}
use Rattle.operation.specs.declared.Operation.TheVariants.{Fourier, PhaseGate, Sum, Cz, Swap, Multiplier, Measure, Reset, Correct}
use Rattle.operation.specs.declared.WeylError.{WeylError}
use Rattle.operation.specs.Operation.{allowed}
use Rattle.operation.specs.Gate.{gate_rows}
use Rattle.validity.specs.Validity.{Valid}
use Rattle.validity.proofs.Exactly.{valid-tableau}
use Rattle.validity_laws.proofs.Keeping.{gate-keeps-valid}
use Rattle.circuit.specs.Circuit.{op_at, Kind, gate, measures, resets, corrects, kind, measured, chosen, Accepted}
use Rattle.runs.specs.Run.{steps_from}
use Rattle.runs.specs.Direct.{state_of, errors_on_rows, direct_kind, direct_errors, direct_step, direct_run}
use Rattle.runs.specs.Frame.{Frame, no_frame, shift_rows}
use Rattle.runs.specs.Raised.{final_frame, raised}
use Rattle.runs.proofs.Frames.{no-powers, no-frame}
use Rattle.run_laws.proofs.Rows.{shifted_none}
use Rattle.run_laws.proofs.Books.{without_errors}
use Rattle.run_laws.proofs.Sound.{run_keeps-valid}
use Rattle.run_laws.proofs.Fold.{final_frame_lem}
use Rattle.run_laws.proofs.Clean.{direct-shifted}
use Rattle.book_laws.proofs.WithoutErrors.{empty}
use Rattle.mirror_book.specs.Undoing.{undoing}
use Rattle.mirror_book.specs.Mirrored.{mirrored}
use Rattle.mirror_book.specs.MirrorBook.{is_gate, gate_at, first_measurement}
use Rattle.mirror_book.proofs.Mirrored.{mirrored-length, mirrored-at}
use Rattle.mirror_book.proofs.Body.{gate-names}
use Rattle.runs.proofs.Results.{measured-chosen}
use Rattle.mirror_laws.specs.Lists.{ListsAccepted, rows_after_both, ListsReturn, ListsCarry}
use Rattle.mirror_laws.proofs.Undone.{undoing-allowed, rows-undone}

-- every operation is a gate
abbrev Gates : List Operation → Type 0
Gates ops = (k : ℕ) → k < length ops → kind (op_at ops k) ≡ gate

is-gate : (x : Kind) → is_gate x ≡ true → x ≡ gate
is-gate gate e = refl
is-gate (measures q) e = absurd (false≢true e)
is-gate (resets q) e = absurd (false≢true e)
is-gate (corrects t m) e = absurd (false≢true e)

pub gates_of : (ops : List Operation) → first_measurement ops ≡ None → Gates ops
gates_of ops none k l = is-gate (kind (op_at ops k)) (all-good (gate_at ops) (length ops) none k l)

pub none-measured : (ops : List Operation) → Gates ops → (m : ℕ) → m ≤ length ops → measured ops m ≡ 0
unfolding measured
none-measured ops g zero l = refl
none-measured ops g (suc m) l = rw (none-measured ops g m (omega arith), g m l)

pub none-chosen : (ops : List Operation) → Gates ops → (m : ℕ) → m ≤ length ops → chosen ops m ≡ 0
unfolding chosen
none-chosen ops g zero l = refl
none-chosen ops g (suc m) l = rw (none-chosen ops g m (omega arith), g m l)

undoing-kind : (d : ℕ) (op : Operation) → kind (undoing d op) ≡ kind op
undoing-kind d (Fourier q k) = refl
undoing-kind d (PhaseGate q k) = refl
undoing-kind d (Sum c t k) = refl
undoing-kind d (Cz c t k) = refl
undoing-kind d (Swap c t) = refl
undoing-kind d (Multiplier q u) = refl
undoing-kind d (Measure q) = refl
undoing-kind d (Reset q) = refl
undoing-kind d (Correct t m) = refl

module _ (d : ℕ) (ops : List Operation) where
  pub mirrored-gates : Gates ops → Gates (mirrored d ops)
  mirrored-gates g k l =
      let i : k < length ops = omega (arith, mirrored-length d ops) in
      rw (mirrored-at d ops k i) (undoing-kind d (op_at ops (length ops - suc k)) ∙ g (length ops - suc k) (omega arith))

  pub mirrored-allowed : (n : ℕ) → Dimension d → ((k : ℕ) → k < length ops → allowed d n (op_at ops k) ≡ true)
      → (k : ℕ) → k < length (mirrored d ops) → allowed d n (op_at (mirrored d ops) k) ≡ true
  mirrored-allowed n dim good k l =
      let i : k < length ops = omega (arith, mirrored-length d ops) in
      rw (mirrored-at d ops k i) (undoing-allowed d n dim (op_at ops (length ops - suc k)) (good (length ops - suc k) (omega arith)))

  -- the rows after the mirror
  abbrev back_from : (n : ℕ) (results' rows : List ℕ) → List ℕ
  back_from n results' rows = (direct_run d n (mirrored d ops) [] [] (state_of rows results')).rows

pub lists-accepted : ListsAccepted
lists-accepted d n dim ops errors choices ac none =
    let g = mirrored-gates d ops (gates_of ops none) in
    record {
      operations = mirrored-allowed d ops n dim ac.operations;
      names = λ k l. gate-names (measured (mirrored d ops) k) (op_at (mirrored d ops) k) (g k l);
      errors-in-order = record { each = λ j l. absurd (omega arith); in_order = λ i j l k. absurd (omega arith) };
      places = λ j l. absurd (omega arith);
      one_each = sym (none-chosen (mirrored d ops) g (length (mirrored d ops)) (le_refl (length (mirrored d ops))));
      below = λ j l. absurd (omega arith);
    }

-- the rows after the first k gates
unfoldable passed : ℕ → ℕ → List Operation → List ℕ → ℕ → List ℕ
passed d n ops t zero = t
passed d n ops t (suc k) = gate_rows d n (op_at ops k) (passed d n ops t k)

module _ (d n : ℕ) (ops : List Operation) (g : Gates ops) (choices t results : List ℕ) where
  steps_passed : (m : ℕ) → m ≤ length ops → (steps_from (direct_step d n ops [] choices) 0 (state_of t results) m).rows ≡ passed d n ops t m
  unfolding steps_from passed direct_step direct_errors errors_on_rows direct_kind
  steps_passed zero l = refl
  steps_passed (suc m) l =
      let q : 0 + m ≡ m = omega arith in
      rw (q, g m l) (ap (gate_rows d n (op_at ops m)) (steps_passed m (omega arith)))

  run_passed : (direct_run d n ops [] choices (state_of t results)).rows ≡ passed d n ops t (length ops)
  unfolding direct_run direct_errors errors_on_rows
  run_passed = steps_passed (length ops) (le_refl (length ops))

module _ (d n : ℕ) (dim : Dimension d) (ops : List Operation) (good : (k : ℕ) → k < length ops → allowed d n (op_at ops k) ≡ true) (t : List ℕ) (ok : Valid d n t) where
  passed-valid : (k : ℕ) → k ≤ length ops → Valid d n (passed d n ops t k)
  unfolding passed
  passed-valid zero l = ok
  passed-valid (suc k) l = gate-keeps-valid d n dim (op_at ops k) (good k l) _ (passed-valid k (omega arith))

  passed-back : (j : ℕ) → j ≤ length ops → passed d n (mirrored d ops) (passed d n ops t (length ops)) j ≡ passed d n ops t (length ops - j)
  unfolding passed
  passed-back zero l = let q : length ops - 0 ≡ length ops = omega arith in rw q
  passed-back (suc j) l =
      let i = length ops - suc j in
      let q : length ops - j ≡ suc i = omega arith in
      rw (passed-back j (omega arith), mirrored-at d ops j l, q)
      (rows-undone d n dim (op_at ops i) (good i (omega arith)) (passed d n ops t i) (valid-tableau d n _ (passed-valid i (omega arith))))

  all_back : passed d n (mirrored d ops) (passed d n ops t (length ops)) (length (mirrored d ops)) ≡ t
  unfolding passed
  all_back =
      let q : length ops - length ops ≡ 0 = omega arith in
      ap (passed d n (mirrored d ops) (passed d n ops t (length ops))) (mirrored-length d ops)
      ∙ passed-back (length ops) (le_refl (length ops))
      ∙ ap (passed d n ops t) q

pub lists_return : ListsReturn
lists_return d n dim ops choices ac none t results results' ok =
    let g = gates_of ops none in
    ap (back_from d ops n results') (run_passed d n ops g choices t results)
    ∙ run_passed d n (mirrored d ops) (mirrored-gates d ops g) [] (passed d n ops t (length ops)) results'
    ∙ all_back d n dim ops ac.operations t ok

-- Where nothing is measured, there are no choices to raise.
none-raised : (d n : ℕ) (ops : List Operation) (errors : List WeylError) (F choices : List ℕ) → choices ≡ [] → raised d n ops errors F choices ≡ choices
unfolding raised tab
none-raised d n ops errors F choices e = rw e

module _ (d n : ℕ) (dim : Dimension d) (ops : List Operation) (errors : List WeylError) (choices : List ℕ)
    (ac : Accepted d n ops errors choices) (none : choices ≡ []) (F : List ℕ) where
  shifted_run : Frame d n F → (t results : List ℕ) → Valid d n t
      → (direct_run d n ops errors choices (state_of (shift_rows d n F t) results)).rows
      ≡ shift_rows d n (final_frame d n ops errors F) (direct_run d n ops [] choices (state_of t results)).rows
  shifted_run f t results ok =
      rw (none-raised d n ops errors F choices none) at (direct-shifted d n dim ops errors choices F ac f t results ok (omega (arith, measured-chosen ops (length ops), ac.one_each, ap length none)))

pub lists_carry : ListsCarry
lists_carry d n dim ops errors choices ac none t results results' ok =
    let low : 0 < d = omega (arith, dim.low) in
    let no-choices = empty choices (ac.one_each ∙ none-chosen ops (gates_of ops none) (length ops) (le_refl (length ops))) in
    let start = shifted_none d n (no_frame n) t (valid-tableau d n t ok) (λ s l. no-powers n s) in
    let there = rw start at (shifted_run d n dim ops errors choices ac no-choices (no_frame n) (no-frame d n low) t results ok) in
    let clean = without_errors ac in
    let F = final_frame d n ops errors (no_frame n) in
    let back =
    shifted_run d n dim (mirrored d ops) [] [] (lists-accepted d n dim ops errors choices ac none) refl F
    (final_frame_lem d n low ops errors ac.operations (no_frame n) (no-frame d n low))
    (direct_run d n ops [] choices (state_of t results)).rows
    results'
    (run_keeps-valid d n dim ops [] choices clean (state_of t results) ok) in
    let both_runs : rows_after_both d n ops errors choices t results results' ≡ shift_rows d n (final_frame d n (mirrored d ops) [] F) t =
    ap (back_from d ops n results') there
    ∙ back
    ∙ ap (shift_rows d n (final_frame d n (mirrored d ops) [] F)) (lists_return d n dim ops choices clean none t results results' ok) in
    both_runs
