-- A power of X applied after a shift: to take X^−r off shifted rows is to take X^−c off the rows and s out of the frame's X power,
-- where r is c + s. A correction and a reset are so.
-- Assumes nothing.
use mathlib.Core.Path.{◌≡◌, sym, ap, ◌∙◌}
use mathlib.Core.Bool.{true}
use mathlib.Core.List.{List}
use Prim.Native.Nat.{ℕ, zero, suc, ◌+◌, ◌*◌, ◌%◌, ◌≤◌, ◌<◌}
use native.Mathlib.Nat.{mod-lt}
use native.Mathlib.Omega.{arith}
use lib.ListN.{length}
use lib.Seq.{get_or-set_same, get_or-set_other, set-set}
use Rattle.congruence.proofs.Congruence.{Cong, cong_refl, cong_eq, cong_sym, cong_trans, cong_add, cong_mul-left, cong_mod, mod_cong, small_cong}
use Rattle.modular.specs.Modular.{neg}
use Rattle.modular.specs.Dimension.{Dimension}
use Rattle.row.specs.Row.{Powers, Row, x_of, z_of}
use Rattle.tableau.specs.Tableau.{Tableau, every}
use Rattle.tableau.proofs.Parts.{tableau-row, on-on}
use Rattle.row_laws.proofs.Reading.{reads_self, positive, unique, reads-phase, reads_of, neg_is}
use Rattle.operation.specs.declared.WeylError.{WeylError}
use Rattle.operation.specs.Error.{error_allowed, error_row, error_rows, error_frame, minus_x}
use Rattle.operation.proofs.Error.{error-keeps, minus-allowed}
use Rattle.operation.proofs.Stores.{powers_store}
use Rattle.conjugation.specs.Generators.{operator}
use Rattle.runs.specs.Frame.{shift_row, shift_rows, reset_frame, correct_frame}
use Rattle.runs.proofs.Frames.{shift-keeps, shift-row}
use Rattle.run_laws.proofs.Shift.{reads-shift, shift-error, error-shifts}

-- A shift and an error exchange: both add to the phase alone.
shift-after : (d n : ℕ) → Dimension d → (e : WeylError) → error_allowed d n e ≡ true → (F : List ℕ) → {v : List ℕ} → Row d n v
    → error_row d n e (shift_row d n F v) ≡ shift_row d n F (error_row d n e v)
shift-after zero n dim e h F a = absurd (omega (arith, positive a))
shift-after (suc f) n dim e h F {v} a =
    unique
    (reads_of (error-shifts (suc f) n dim e h _ (shift-row (suc f) n F v (positive a) a))
    (reads-shift f n (operator (suc f) n e) (reads-shift f n F (reads_self a))))
    (reads-phase (cong_eq (suc f) (omega arith))
    (reads-shift f n F (reads_of (error-shifts (suc f) n dim e h v a) (reads-shift f n (operator (suc f) n e) (reads_self a)))))

-- r is c + s
module _ (e n q r c s : ℕ) (l : q < n) (is : Cong (suc e) r (c + s)) where
  abbrev d : ℕ
  d = suc e

  -- what is left of the frame
  abbrev less : List ℕ → List ℕ
  less F = correct_frame d q s F

  powers-agree : (x : ℕ) → ((x + neg d s) % d + neg d c) % d ≡ (x + neg d r) % d
  powers-agree x =
      mod_cong
      (cong_trans (cong_add (cong_sym (cong_mod d _)) (neg_is e c))
      (cong_trans (cong_add (cong_add (cong_refl d x) (neg_is e s)) (cong_refl d _))
      (cong_trans (cong_eq d (omega arith))
      (cong_add (cong_refl d x) (cong_sym (cong_trans (neg_is e r) (cong_mul-left e is)))))))

  minus-frame : (F : List ℕ) → 2 * n ≤ length F → error_frame d n (minus_x d q c) (less F) ≡ error_frame d n (minus_x d q r) F
  unfolding error_frame
  minus-frame F room =
      let x : x_of (less F) q ≡ (x_of F q + neg d s) % d = get_or-set_same F q _ 0 (omega arith) in
      let z : z_of n (less F) q ≡ z_of n F q = get_or-set_other F q (n + q) _ 0 (λ y. omega arith) in
      rw (x, z, powers-agree (x_of F q), set-set F q ((x_of F q + neg d s) % d) ((x_of F q + neg d r) % d))

  minus-row : Dimension d → (F : List ℕ) → Powers d n F → {v : List ℕ} → Row d n v
      → error_row d n (minus_x d q r) (shift_row d n F v) ≡ shift_row d n (less F) (error_row d n (minus_x d q c) v)
  minus-row dim F p {v} a =
      let low : 0 < suc e = omega arith in
      shift-error d n dim (minus_x d q r) (minus-allowed d n q r low l) F p a
      ∙ ap (λ (G : List ℕ). shift_row d n G v) (sym (minus-frame F p.room))
      ∙ sym (shift-error d n dim (minus_x d q c) (minus-allowed d n q c low l) (less F) (powers_store q p (mod-lt _ low)) a)
      ∙ shift-after d n dim (minus_x d q c) (minus-allowed d n q c low l) (less F) a

  pub minus-rows : Dimension d → (F t : List ℕ) → Powers d n F → Tableau d n t
      → error_rows d n (minus_x d q r) (shift_rows d n F t) ≡ shift_rows d n (less F) (error_rows d n (minus_x d q c) t)
  minus-rows dim F t p h =
      on-on n (every (error_row d n (minus_x d q r))) (every (shift_row d n F)) (every (shift_row d n (less F))) (every (error_row d n (minus_x d q c)))
      (error-keeps d n (minus_x d q r))
      (shift-keeps d n F)
      (shift-keeps d n (less F))
      (error-keeps d n (minus_x d q c))
      t
      h.room
      (λ i k. minus-row dim F p (tableau-row d n t h i k))

-- What is there and its negative are 0.
pub cancels : (e x : ℕ) → (x + neg (suc e) x) % suc e ≡ 0
cancels e x =
    small_cong
    (cong_trans (cong_sym (cong_mod (suc e) _)) (cong_trans (cong_add (cong_refl (suc e) x) (neg_is e x)) (record { p = 0; q = x; eq = omega arith })))
    (mod-lt _ (omega arith))
    (omega arith)

-- A reset: outcome o of the rows is o plus the frame's X power of the shifted rows; the frame loses that power.
pub reset-rows : (d n q o : ℕ) → Dimension d → q < n → (F t : List ℕ) → Powers d n F → Tableau d n t
    → error_rows d n (minus_x d q ((o + x_of F q) % d)) (shift_rows d n F t) ≡ shift_rows d n (reset_frame q F) (error_rows d n (minus_x d q o) t)
reset-rows zero n q o dim l F t p h = absurd (omega (arith, dim.low))
reset-rows (suc e) n q o dim l F t p h =
    rw (cancels e (x_of F q)) at
    (minus-rows e n q ((o + x_of F q) % suc e) o (x_of F q) l (cong_sym (cong_mod (suc e) _)) dim F t p h)

-- A correction by the result R whose shift was s: the clean result is R less s.
pub correct_rows : (d n q R s : ℕ) → Dimension d → q < n → (F t : List ℕ) → Powers d n F → Tableau d n t
    → error_rows d n (minus_x d q (R % d)) (shift_rows d n F t)
    ≡ shift_rows d n (correct_frame d q s F) (error_rows d n (minus_x d q ((R + neg d s) % d)) t)
correct_rows zero n q R s dim l F t p h = absurd (omega (arith, dim.low))
correct_rows (suc e) n q R s dim l F t p h =
    minus-rows e n q (R % suc e) ((R + neg (suc e) s) % suc e) s l
    (cong_trans (cong_sym (cong_mod (suc e) R))
    (cong_sym
    (cong_trans (cong_add (cong_sym (cong_mod (suc e) _)) (cong_refl (suc e) s))
    (cong_trans (cong_add (cong_add (cong_refl (suc e) R) (neg_is e s)) (cong_refl (suc e) s)) (record { p = 0; q = s; eq = omega arith })))))
    dim F t p h

-- A result without the shift that it has gained is the result, also where the shift is 0.
pub without_shift : (d x s : ℕ) → 0 < d → ((x + s) % d + neg d s) % d ≡ x % d
without_shift zero x s low = absurd (omega arith)
without_shift (suc e) x s low =
    mod_cong
    (cong_trans (cong_add (cong_sym (cong_mod (suc e) (x + s))) (neg_is e s)) (record { p = 0; q = s; eq = omega arith }))

pub without_none : (d x : ℕ) → 0 < d → (x + neg d 0) % d ≡ x % d
without_none zero x low = absurd (omega arith)
without_none (suc e) x low = mod_cong (cong_trans (cong_add (cong_refl (suc e) x) (neg_is e 0)) (cong_eq (suc e) (omega arith)))
