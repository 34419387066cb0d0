-- To shift a row's phase by its pairing with a frame is a map of rows that goes with products and powers. A gate after it is the
-- shift by the mapped frame after the gate, and an error after it is the shift by the frame with that error.
-- Assumes nothing.
use mathlib.Core.Path.{◌≡◌, sym, ap, ◌∙◌}
use mathlib.Core.Bool.{true}
use mathlib.Core.List.{List}
use Prim.Native.Nat.{ℕ, zero, suc, ◌+◌, ◌*◌, ◌%◌, ◌<◌}
use native.Mathlib.Nat.{add-zero, mod-lt, mod-eq_of_lt}
use native.Mathlib.Omega.{arith}
use lib.ListN.{get_or}
use lib.Seq.{set-get_or, get_or-set_same}
use Rattle.congruence.proofs.Congruence.{Cong, cong_refl, cong_eq, cong_sym, cong_trans, cong_add, cong_mul-left, cong_mod, small_cong}
use Rattle.symplectic.proofs.Pairing.{half-none-left, half-none-right, pair, pair-add-right, pair_scale_right, pair_cong, pair_flip, zed, pair-zed}
use Rattle.symplectic.proofs.Map.{pair-map}
use Rattle.modular.specs.Modular.{neg}
use Rattle.modular.specs.Dimension.{Dimension}
use Rattle.row.specs.Row.{Powers, Row, x_of, phase_of, product, power, pairing}
use Rattle.row.specs.Generators.{z_with}
use Rattle.row_laws.specs.Scalar.{scalar}
use Rattle.row_laws.proofs.Reading.{bytes, Denotes, Reads, denotes, denotes-self, reads_self, positive, unique, reads-phase, reads_of, made, reads-scalar, reads-product, reads-power, neg_small, neg_is, pairing-small, pairing-means, pairing-is}
use Rattle.operation.specs.declared.Operation.{Operation}
use Rattle.operation.specs.declared.WeylError.{WeylError}
use Rattle.operation.specs.Operation.{allowed}
use Rattle.operation.specs.Gate.{gate_row, gate_frame}
use Rattle.operation.specs.Error.{error_allowed, error_row, error_frame}
use Rattle.conjugation.specs.Generators.{operator}
use Rattle.conjugation.proofs.Acts.{mapped, gained, acts, reads-gate}
use Rattle.conjugation.proofs.Errors.{error-pairs, error-frame-pairs}
use Rattle.validity_laws.proofs.View.{reads_z}
use Rattle.runs.specs.Frame.{shift_row}
use Rattle.runs.proofs.Frames.{shift-row}

-- What a shifted row means.
module _ (e n : ℕ) (F : List ℕ) where
  pub reads-shift : {v : List ℕ} {u : ℕ → ℕ} {r : ℕ} → Reads (suc e) n v u r → Reads (suc e) n (shift_row (suc e) n F v) u (r + pair e n (bytes F) u)
  unfolding shift_row
  reads-shift {v} {u} {r} a =
      made (suc e) n v u _ _ a.len (λ s l. a.small s (omega arith)) a.powers (mod-lt _ (omega arith))
      (cong_trans (cong_sym (cong_mod (suc e) _)) (cong_add a.phase (pairing-means (denotes-self (suc e) n F) (denotes a))))

-- A frame of no powers pairs to 0.
pub pairing-none : (d n : ℕ) (F v : List ℕ) → 0 < d → ((s : ℕ) → s < 2 * n → get_or F s 0 ≡ 0) → pairing d n F v ≡ 0
pairing-none zero n F v low h = absurd (omega arith)
pairing-none (suc e) n F v low h =
    small_cong
    (cong_trans (pairing-means none (denotes-self (suc e) n v))
    (cong_eq _ (omega (arith, half-none-left n (bytes v), ap (λ (z : ℕ). e * z) (half-none-right n (bytes v))))))
    (pairing-small low n F v)
    low
  where
    none : Denotes (suc e) n F (λ s. 0) (phase_of n F)
    none = record { powers = λ s l. cong_eq (suc e) (h s (omega arith)); phase = cong_refl (suc e) _ }

-- A row stays exactly if the frame pairs to 0 with it.
module _ (d n : ℕ) (F : List ℕ) {v : List ℕ} (a : Row d n v) where
  pub shift-stays : pairing d n F v ≡ 0 → shift_row d n F v ≡ v
  unfolding shift_row
  shift-stays e =
      let same : (phase_of n v + 0) % d ≡ phase_of n v = rw add-zero (mod-eq_of_lt (a.below (2 * n) (omega arith))) in
      rw (e, same) (set-get_or v (2 * n) 0)

  pub stays-pairs : shift_row d n F v ≡ v → pairing d n F v ≡ 0
  unfolding shift_row
  stays-pairs e =
      let x = pairing d n F v in
      let r = phase_of n v in
      let there : phase_of n (shift_row d n F v) ≡ (r + x) % d = get_or-set_same v (2 * n) _ 0 (omega (arith, a.len)) in
      let c : Cong d (r + x) r = cong_trans (cong_mod d (r + x)) (cong_eq d (sym there ∙ ap (phase_of n) e)) in
      small_cong (record { p = c.p; q = c.q; eq = omega (arith, c.eq) }) (pairing-small (positive a) n F v) (positive a)

pub shift_none : (d n : ℕ) (F : List ℕ) → ((s : ℕ) → s < 2 * n → get_or F s 0 ≡ 0) → {v : List ℕ} → Row d n v → shift_row d n F v ≡ v
shift_none d n F h {v} a = shift-stays d n F a (pairing-none d n F v (positive a) h)

-- Products, powers, and the product of no rows.
pub shift-product : (d n : ℕ) (F : List ℕ) {v w : List ℕ} → Row d n v → Row d n w
    → product d n (shift_row d n F v) (shift_row d n F w) ≡ shift_row d n F (product d n v w)
shift-product zero n F a b = absurd (omega (arith, positive a))
shift-product (suc e) n F {v} {w} a b =
    let low = positive a in
    unique (reads-product low (reads-shift e n F (reads_self a)) (reads-shift e n F (reads_self b)))
    (reads-phase (cong_eq _ (omega (arith, pair-add-right e n (bytes F) (bytes v) (bytes w))))
    (reads-shift e n F (reads-product low (reads_self a) (reads_self b))))

pub shift-power : (d n : ℕ) (F : List ℕ) (h : ℕ) {v : List ℕ} → Row d n v → power d n h (shift_row d n F v) ≡ shift_row d n F (power d n h v)
shift-power zero n F h a = absurd (omega (arith, positive a))
shift-power (suc e) n F h {v} a =
    let low = positive a in
    unique (reads-power low h (reads-shift e n F (reads_self a)))
    (reads-phase (cong_eq _ (omega (arith, pair_scale_right e n (bytes F) (bytes v) h))) (reads-shift e n F (reads-power low h (reads_self a))))

pub shift-scalar : (d n : ℕ) (F : List ℕ) → 0 < d → shift_row d n F (scalar n 0) ≡ scalar n 0
shift-scalar zero n F low = absurd (omega arith)
shift-scalar (suc e) n F low =
    let a = reads-scalar (suc e) n 0 low in
    unique
    (reads-phase (cong_eq _ (omega (arith, half-none-right n (bytes F), ap (λ (z : ℕ). e * z) (half-none-left n (bytes F))))) (reads-shift e n F a))
    a

-- Z on q that measures m: it then measures m plus the frame's X power on q.
pub shift_z : (d n : ℕ) (F : List ℕ) (q m : ℕ) → q < n → 1 < d → shift_row d n F (z_with n q (neg d m)) ≡ z_with n q (neg d ((m + x_of F q) % d))
shift_z zero n F q m l low = absurd (omega arith)
shift_z (suc e) n F q m l low =
    let p : 0 < suc e = omega arith in
    unique (reads-shift e n F (reads_z low n q (neg_small p m)))
    (reads-phase
    (cong_trans (neg_is e _)
    (cong_trans (cong_mul-left e (cong_sym (cong_mod (suc e) (m + x_of F q))))
    (cong_trans (cong_eq _ (omega arith))
    (cong_add (cong_sym (neg_is e m))
    (cong_sym (cong_trans (pair_flip e n (bytes F) (zed n q)) (cong_eq _ (ap (λ (z : ℕ). e * z) (pair-zed e n q l (bytes F))))))))))
    (reads_z low n q (neg_small p _)))

pub shift-gate : (d n : ℕ) → Dimension d → (op : Operation) → allowed d n op ≡ true → (F : List ℕ) → Powers d n F → {v : List ℕ} → Row d n v
    → gate_row d n op (shift_row d n F v) ≡ shift_row d n (gate_frame d n op F) (gate_row d n op v)
shift-gate zero n dim op h F p a = absurd (omega (arith, positive a))
shift-gate (suc e) n dim op h F p {v} a =
    unique (reads-gate dim op h (reads-shift e n F (reads_self a)))
    (reads-phase (cong_trans (cong_add (cong_refl d _) kept) (cong_eq d (omega arith)))
    (reads-shift e n (gate_frame d n op F) (reads-gate dim op h (reads_self a))))
  where
    d : ℕ
    d = suc e

    kept : Cong d (pair e n (bytes (gate_frame d n op F)) (mapped d n op (bytes v))) (pair e n (bytes F) (bytes v))
    kept =
        cong_trans
        (pair_cong e n (bytes (gate_frame d n op F)) (mapped d n op (bytes F)) (mapped d n op (bytes v)) (mapped d n op (bytes v))
        ((acts dim op h).powers F p.room)
        (λ s l. cong_refl d _))
        (pair-map e n (mapped d n op) (gained d n op) (acts dim op h).hom (bytes F) (bytes v))

-- An error is the shift by its own X^p Z^s.
pub error-shifts : (d n : ℕ) → Dimension d → (er : WeylError) → error_allowed d n er ≡ true → (v : List ℕ) → Row d n v
    → error_row d n er v ≡ shift_row d n (operator d n er) v
unfolding shift_row
error-shifts = error-pairs

pub shift-error : (d n : ℕ) → Dimension d → (er : WeylError) → error_allowed d n er ≡ true → (F : List ℕ) → Powers d n F → {v : List ℕ} → Row d n v
    → error_row d n er (shift_row d n F v) ≡ shift_row d n (error_frame d n er F) v
shift-error zero n dim er h F p a = absurd (omega (arith, positive a))
shift-error (suc e) n dim er h F p {v} a =
    unique
    (reads_of (error-shifts d n dim er h _ (shift-row d n F v (positive a) a)) (reads-shift e n E (reads-shift e n F (reads_self a))))
    (reads-phase (cong_trans (cong_add (cong_refl d (phase_of n v)) gained_too) (cong_eq d (omega arith)))
    (reads-shift e n (error_frame d n er F) (reads_self a)))
  where
    d : ℕ
    d = suc e

    E : List ℕ
    E = operator d n er

    gained_too : Cong d (pair e n (bytes (error_frame d n er F)) (bytes v)) (pair e n (bytes F) (bytes v) + pair e n (bytes E) (bytes v))
    gained_too =
        cong_trans (cong_sym (pairing-is e n (error_frame d n er F) v))
        (cong_trans (cong_eq d (error-frame-pairs d n dim er h F p v))
        (cong_trans (cong_sym (cong_mod d _)) (cong_add (pairing-is e n F v) (pairing-is e n E v))))
