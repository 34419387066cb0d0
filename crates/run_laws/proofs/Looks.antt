-- The look at a qudit of a shifted tableau has the same pivot, or an outcome that is more by the frame's X power.
-- Assumes nothing.
use Rattle.std.proofs.Common.{Option, Some, None}
use mathlib.Core.Path.{◌≡◌, refl, sym, ap, ◌∙◌, subst₂}
use mathlib.Core.List.{List}
use Prim.Native.Nat.{ℕ, zero, suc, ◌+◌, ◌*◌, ◌%◌, ◌<◌}
use native.Mathlib.Nat.{mod-lt}
use native.Mathlib.Omega.{arith}
use Rattle.congruence.proofs.Congruence.{cong_trans, cong_mul-left, small_cong}
use Rattle.modular.specs.Modular.{neg}
use Rattle.modular.specs.Dimension.{Dimension}
use Rattle.row.specs.Row.{x_of, phase_of}
use Rattle.row.specs.Generators.{z_with}
use Rattle.row_laws.proofs.Reading.{neg_small, neg_is}
use Rattle.search.proofs.Search.{found_fails}
use Rattle.tableau.specs.Tableau.{every}
use Rattle.validity.specs.Validity.{Valid}
use Rattle.validity.proofs.Exactly.{valid-tableau}
use Rattle.measurement.specs.declared.Look.{Look}
use Rattle.measurement.specs.declared.Look.TheVariants.{Free, Certain}
use Rattle.measurement.specs.Look.{stabilizer_power, commutes, pivot_of, weighted, look_by, look}
use Rattle.measurement.proofs.Combination.{pivot-same}
use Rattle.validity_laws.proofs.View.{reads_at, basis, valid-on}
use Rattle.measurement_laws.proofs.Combination.{reads-weighted}
use Rattle.measurement_laws.proofs.Looks.{Commuting, commuting_of}
use Rattle.measurement_laws.proofs.Certain.{z_phase, weighted_z, look-certain}
use Rattle.runs.specs.Frame.{shift_row, shift_rows}
use Rattle.runs.proofs.Frames.{shift-keeps}
use Rattle.run_laws.proofs.Shift.{reads-shift, shift_z}
use Rattle.run_laws.proofs.Rows.{shifted_at, weighted-shifted}

-- −(−x)
pub neg-neg : (e : ℕ) {x : ℕ} → x < suc e → x ≡ neg (suc e) (neg (suc e) x)
neg-neg e {x} l =
    sym
    (small_cong (cong_trans (neg_is e _) (cong_trans (cong_mul-left e (neg_is e x)) (record { p = x; q = e * x; eq = omega arith })))
    (neg_small (omega arith) _)
    l)

-- what is seen in t, and what in t shifted by F
pub data Both (d n : ℕ) (t : List ℕ) (q : ℕ) (F : List ℕ) : Look → Look → Type 0 where
  free : (k : ℕ) → k < n → look d n t q ≡ Free k → Both d n t q F (Free k) (Free k)
  certain : (outcome : ℕ) → Both d n t q F (Certain outcome) (Certain ((outcome + x_of F q) % d))

-- A shifted tableau is valid: its powers are the same.
pub shift-keeps-valid : (d n : ℕ) → Dimension d → (t F : List ℕ) → Valid d n t → Valid d n (shift_rows d n F t)
shift-keeps-valid zero n dim t F ok = absurd (omega (arith, dim.low))
shift-keeps-valid (suc e) n dim t F ok =
    valid-on dim (basis ok) {f = every (shift_row (suc e) n F)} (shift-keeps (suc e) n F) t ok.room (λ i l. reads-shift e n F (reads_at ok i l))

module _ (e n : ℕ) (dim : Dimension (suc e)) (t : List ℕ) (ok : Valid (suc e) n t) (F : List ℕ) where
  abbrev d : ℕ
  d = suc e

  abbrev shifted : List ℕ
  shifted = shift_rows d n F t

  module _ (q : ℕ) (lq : q < n) where
    shifted_state : (i : ℕ) → i < n → stabilizer_power n t q i ≡ stabilizer_power n shifted q i
    shifted_state i l = sym (shifted_at d n F t (valid-tableau d n t ok) (n + i) q (omega arith) (omega arith))

    module _ (c : Commuting n t q) where
      abbrev outcome : ℕ
      outcome = neg d (phase_of n (weighted d n t q))

      weighed : weighted d n shifted q ≡ z_with n q (neg d ((outcome + x_of F q) % d))
      weighed =
          weighted-shifted d n F t (valid-tableau d n t ok) (omega arith) q lq
          ∙ ap (shift_row d n F) (weighted_z dim ok q lq c ∙ ap (z_with n q) (neg-neg e ((reads-weighted ok (omega arith) q).small (2 * n) (omega arith))))
          ∙ shift_z d n F q outcome lq (omega (arith, dim.low))

      shifted-certain : look d n shifted q ≡ Certain ((outcome + x_of F q) % d)
      shifted-certain =
          look-certain dim (shift-keeps-valid d n dim t F ok) q lq (λ i l. sym (shifted_state i l) ∙ c i l)
          ∙ ap (λ (x : ℕ). Certain (neg d x)) (ap (phase_of n) weighed ∙ z_phase n q _)
          ∙ ap (λ (x : ℕ). Certain x) (sym (neg-neg e (mod-lt _ (omega arith))))

    both_at : Both d n t q F (look d n t q) (look d n shifted q)
    unfolding look pivot_of
    both_at = go (pivot_of n t q) refl
      where
        go : (p : Option ℕ) → pivot_of n t q ≡ p → Both (suc e) n t q F (look (suc e) n t q) (look (suc e) n (shift_rows (suc e) n F t) q)
        go (Some k) x =
            let l = (found_fails (commutes n t q) n k x).0 in
            let y : look (suc e) n t q ≡ Free k = ap (look_by (suc e) n t q) x in
            let z : look (suc e) n (shift_rows (suc e) n F t) q ≡ Free k =
            ap (look_by (suc e) n (shift_rows (suc e) n F t) q) (sym (pivot-same n t (shift_rows (suc e) n F t) q shifted_state) ∙ x) in
            subst₂ (Both (suc e) n t q F) (sym y) (sym z) (free k l y)
        go None x =
            let c = commuting_of n t q x in
            subst₂ (Both (suc e) n t q F) (sym (look-certain dim ok q lq c)) (sym (shifted-certain c)) (certain _)

pub both : (d n : ℕ) → Dimension d → (t : List ℕ) → Valid d n t → (F : List ℕ) (q : ℕ) → q < n → Both d n t q F (look d n t q) (look d n (shift_rows d n F t) q)
both zero n dim t ok F q l = absurd (omega (arith, dim.low))
both (suc e) n dim t ok F q l = both_at e n dim t ok F q l
