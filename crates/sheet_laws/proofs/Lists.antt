-- The sheet of weights: shifts are powers times weights, none before an error's place, and no power in the sheet.
-- Assumes nothing.
use mathlib.Core.Path.{◌≡◌, refl, sym, ap, ◌∙◌}
use mathlib.Core.List.{List, [], ◌∷◌}
use Prim.Native.Nat.{ℕ, zero, suc, ◌+◌, ◌*◌, ◌%◌, ◌≤◌, ◌<◌}
use native.Mathlib.Nat.{mod-lt, le_refl}
use native.Mathlib.Omega.{arith}
use lib.ListN.{length, get_or, length-replicate}
use lib.Seq.{ext_get_or}
use borrow.Author.Tests.{eq-eqb, ne_eqb}
use Rattle.congruence.proofs.Congruence.{cong_refl, cong_eq, cong_sym, cong_trans, cong_add, cong_mod, mod_cong, small_cong}
use Rattle.congruence.proofs.Sum.{sum}
use Rattle.modular.specs.Dimension.{Dimension}
use Rattle.row.proofs.Fill.{filled-get}
use Rattle.tableau.specs.Tableau.{each_row}
use Rattle.operation.specs.declared.Operation.{Operation}
use Rattle.operation.specs.declared.WeylError.{WeylError}
use Rattle.circuit.specs.Circuit.{op_at, err_at, Kind, gate, measures, resets, corrects, kind, measured, measurement_count, Accepted}
use Rattle.runs.specs.Direct.{direct_run}
use Rattle.runs.specs.Frame.{no_frame, errors_on_frame, frame_leaves, frame_run}
use Rattle.runs.specs.Raised.{Carry, carrying, carry_by, frame_before, carried, carried_frame, result_shifts}
use Rattle.runs.specs.Carry.{shifted_byte_at, with_shifts}
use Rattle.runs.proofs.Frames.{no-powers}
use Rattle.runs.proofs.Shifts.{shift_known}
use Rattle.run_laws.proofs.Books.{without_errors}
use Rattle.run_laws.proofs.Clean.{frame-is-clean}
use Rattle.sheet.specs.Weights.{with_powers, shift_of, weight_x, weight_z, weights_of, row_bytes, sheet_row, weighed}
use Rattle.sheet.proofs.Bytes.{even_half, odd-half}
use Rattle.sheet_laws.specs.Lists.{ShiftsWeighed, FrameWeighed, NoneBefore, SheetOfPlaces}
use Rattle.sheet_laws.proofs.Linear.{blend, blends_all}

weighed-sum : (d n : ℕ) (ops : List Operation) (errors : List WeylError) (j i : ℕ)
    → weighed d n ops errors j i
    ≡ blend i (λ x. (err_at errors x).p) (λ x. (err_at errors x).s) (λ x. weight_x d n ops (err_at errors x) j) (λ x. weight_z d n ops (err_at errors x) j)
unfolding weighed sum
weighed-sum d n ops errors j zero = refl
weighed-sum d n ops errors j (suc i) =
    ap (λ (z : ℕ). z + ((err_at errors i).p * weight_x d n ops (err_at errors i) j + (err_at errors i).s * weight_z d n ops (err_at errors i) j))
    (weighed-sum d n ops errors j i)

pub shifts-weighed : ShiftsWeighed
shifts-weighed zero n dim ops errors choices ac j l = absurd (omega (arith, dim.low))
shifts-weighed (suc e) n dim ops errors choices ac j l =
    let b = blends_all e n dim ops errors choices ac (length ops) (le_refl (length ops)) in
    small_cong (cong_trans (b.shifts j l) (cong_trans (cong_eq (suc e) (sym (weighed-sum (suc e) n ops errors j (length errors)))) (cong_mod (suc e) _)))
    (b.good.below j l)
    (mod-lt _ (omega arith))

-- (x + y % d) % d
mod-in : (d x y : ℕ) → (x + y % d) % d ≡ (x + y) % d
mod-in d x y = mod_cong (cong_add (cong_refl d x) (cong_sym (cong_mod d y)))

-- a result with its shift, and its mark
shifted-outcome : (d : ℕ) (shifts clean : List ℕ) (count j : ℕ) → j < count
    → get_or (with_shifts d shifts count clean) (2 * j) 0 ≡ (get_or clean (2 * j) 0 + get_or shifts j 0) % d
unfolding with_shifts
shifted-outcome d shifts clean count j l =
    filled-get (shifted_byte_at d clean shifts) clean (2 * count) (2 * j) (omega arith)
    ∙ rw (eq-eqb ((2 * j) % 2) 0 (even_half j).1, (even_half j).0)

shifted-mark : (d : ℕ) (shifts clean : List ℕ) (count j : ℕ) → j < count
    → get_or (with_shifts d shifts count clean) (2 * j + 1) 0 ≡ get_or clean (2 * j + 1) 0
unfolding with_shifts
shifted-mark d shifts clean count j l =
    filled-get (shifted_byte_at d clean shifts) clean (2 * count) (2 * j + 1) (omega arith)
    ∙ rw (ne_eqb ((2 * j + 1) % 2) 0 (λ z. omega (arith, (odd-half j).1)))

pub frame-weighed : FrameWeighed
unfolding frame_run frame_leaves
frame-weighed d n dim ops errors choices ac st shifts frame room =
    let clean = direct_run d n ops [] choices st in
    let S = result_shifts d n ops errors (no_frame n) in
    let same = frame-is-clean d n ops errors choices (no_frame n) st shifts frame (omega (arith, dim.low)) room in
    rw same
    (record {
      outcomes = λ j l.
          shifted-outcome d S clean.results (measurement_count ops) j l
          ∙ ap (λ (z : ℕ). (get_or clean.results (2 * j) 0 + z) % d) (shifts-weighed d n dim ops errors choices ac j l)
          ∙ mod-in d _ _;
      marks = λ j l. shifted-mark d S clean.results (measurement_count ops) j l;
    })

-- Before its place a single error does nothing.
quiet : (d n : ℕ) (ops : List Operation) (er : WeylError) (C : Carry) (k : ℕ) → k ≤ er.place → carried d n ops (er ∷ []) 0 C k ≡ carried d n ops [] 0 C k
unfolding carried carry_by frame_before errors_on_frame
quiet d n ops er C zero l = refl
quiet d n ops er C (suc k) l =
    let q : 0 + k ≡ k = omega arith in
    rw (q, quiet d n ops er C k (omega arith), ne_eqb er.place k (λ e. omega arith)) (by (kind (op_at ops k)) (carried d n ops [] 0 C k))
  where
    by : (x : Kind) (D : Carry) → carry_by d n ops (er ∷ []) k x D ≡ carry_by d n ops [] k x D
    by gate D = refl
    by (measures q) D = refl
    by (resets q) D = refl
    by (corrects t m) D = refl

-- No error: no frame, and no shift.
module _ (d n : ℕ) (dim : Dimension d) (ops : List Operation) (errors : List WeylError) (choices : List ℕ) (ac : Accepted d n ops errors choices) where
  none-carried : (k : ℕ) → k ≤ length ops
      → (carried_frame d n ops [] (no_frame n) k ≡ no_frame n)
      × ((j : ℕ) → j < measured ops k → get_or (carried d n ops [] 0 (carrying (no_frame n)) k).shifts j 0 ≡ 0)
  unfolding sum
  none-carried = by d dim (without_errors ac)
    where
      by : (d : ℕ) → Dimension d → Accepted d n ops [] choices → (k : ℕ) → k ≤ length ops
          → (carried_frame d n ops [] (no_frame n) k ≡ no_frame n)
          × ((j : ℕ) → j < measured ops k → get_or (carried d n ops [] 0 (carrying (no_frame n)) k).shifts j 0 ≡ 0)
      by zero dim ac k l = absurd (omega (arith, dim.low))
      by (suc e) dim ac k l =
          let b = blends_all e n dim ops [] choices ac k l in
          let len = b.good.frame.len in
          let none = no-powers n in (
            ext_get_or 0 _ _ (len ∙ sym (length-replicate (2 * n) 0))
                (λ x h.
                small_cong (b.frames x (omega (arith, len))) (b.good.frame.powers.below x (omega (arith, len))) (omega arith) ∙ sym (none x)),
            λ j h. small_cong (b.shifts j h) (b.good.below j h) (omega arith),
          )

  -- So before its place an error has no frame and no shift.
  module _ (er : WeylError) (inside : er.place ≤ length ops) where
    pub no-frame-before : (k : ℕ) → k ≤ er.place → carried_frame d n ops (er ∷ []) (no_frame n) k ≡ no_frame n
    no-frame-before k l = ap (λ (C : Carry). C.frame) (quiet d n ops er (carrying (no_frame n)) k l) ∙ (none-carried k (omega arith)).0

    pub no-shift-before : (j : ℕ) → j < measured ops er.place → shift_of d n ops (er ∷ []) j ≡ 0
    no-shift-before j l =
        let P = er.place in
        sym (shift_known d n ops (er ∷ []) (no_frame n) P j inside l)
        ∙ ap (λ (C : Carry). get_or C.shifts j 0) (quiet d n ops er (carrying (no_frame n)) P (le_refl P))
        ∙ (none-carried P inside).1 j l

pub none_before : NoneBefore
none_before d n dim ops errors choices ac i h j l =
    let er = err_at errors i in (
      no-shift-before d n dim ops errors choices ac (with_powers er 1 0) (ac.places i h) j l,
      no-shift-before d n dim ops errors choices ac (with_powers er 0 1) (ac.places i h) j l,
    )

-- The sheet reads an entry's place and qudit alone.
pub same_weights : (d n : ℕ) (ops : List Operation) (e e' : WeylError) → e.place ≡ e'.place → e.qudit ≡ e'.qudit
    → weights_of d n ops e ≡ weights_of d n ops e'
unfolding weights_of
same_weights d n ops e e' x y = rw (x, y)

pub sheet_of_places : SheetOfPlaces
unfolding each_row sheet_row
sheet_of_places d n ops errors errors' same out = rows (length errors) (le_refl (length errors)) ∙ ap (each_row (sheet_row d n ops errors') (row_bytes ops) out) same.as_many
  where
    rows : (k : ℕ) → k ≤ length errors → each_row (sheet_row d n ops errors) (row_bytes ops) out k ≡ each_row (sheet_row d n ops errors') (row_bytes ops) out k
    rows zero l = refl
    rows (suc k) l = rw (rows k (omega arith), same_weights d n ops (err_at errors k) (err_at errors' k) (same.places k l) (same.qudits k l))
