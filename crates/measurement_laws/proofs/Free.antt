-- The rows after a free measurement of q, with stabilizer k for the pivot, are valid.
-- Assumes nothing.
use mathlib.Core.Path.{◌≡◌, sym, ◌∙◌}
use mathlib.Core.List.{List}
use Prim.Native.Nat.{ℕ, suc, ◌+◌, ◌*◌, ◌%◌, ◌<◌}
use native.Mathlib.Nat.{mod-eq_of_lt}
use native.Mathlib.Omega.{arith}
use borrow.Author.Tests.{eq-eqb, ne_eqb}
use Rattle.congruence.proofs.Congruence.{Cong, cong_refl, cong_sym, cong_trans, cong_add, cong_mul-right, cong_mod, cong_of_mod}
use Rattle.symplectic.proofs.Triangle.{tri}
use Rattle.symplectic.proofs.Pairing.{half, zed}
use Rattle.stabilizer.proofs.Bridge.{clearing}
use Rattle.stabilizer.proofs.Kept.{Moved, kept}
use Rattle.stabilizer.proofs.Collapse.{Measured, measured}
use Rattle.modular.specs.Modular.{neg}
use Rattle.modular.specs.Dimension.{Dimension, inverse}
use Rattle.row.specs.Row.{x_of}
use Rattle.row_laws.proofs.Reading.{Reads, reads_self, reads_of, reads-product, reads-power, neg_small, neg_is}
use Rattle.tableau.specs.Tableau.{row}
use Rattle.tableau.proofs.Parts.{on-at}
use Rattle.validity.specs.Validity.{Valid}
use Rattle.measurement.specs.declared.Look.TheVariants.{Free}
use Rattle.measurement.specs.Look.{look}
use Rattle.measurement.specs.Collapse.{collapse_row, collapse}
use Rattle.measurement.proofs.Collapsed.{collapsed, collapsed-keeps}
use Rattle.validity_laws.proofs.View.{rows, phases, at-odd, reads_at, basis, valid-on, reads_z}
use Rattle.measurement_laws.specs.Measurement.{CollapseKeepsValid}
use Rattle.measurement_laws.proofs.Combination.{stabs, signs}
use Rattle.measurement_laws.proofs.Looks.{Pivot, look-free}

-- A measurement of qudit q of a valid tableau that is free, with stabilizer k for the pivot.
pub record FreeAt (d n : ℕ) (t : List ℕ) (q k : ℕ) : Type 0 where
  pub dimension : Dimension d
  pub valid : Valid d n t
  pub qudit : q < n
  pub pivot : Pivot n t q k

pub free-at : {d n q k : ℕ} {t : List ℕ} → Dimension d → Valid d n t → q < n → look d n t q ≡ Free k → FreeAt d n t q k
free-at {d} {n} {q} {k} {t} dim ok lq x = record { dimension = dim; valid = ok; qudit = lq; pivot = look-free d n t q k x }

module _ {e n : ℕ} {t : List ℕ} {q k : ℕ} (free : FreeAt (suc e) n t q k) where
  abbrev d : ℕ
  d = suc e

  low : 1 < d
  low = omega (arith, free.dimension.low)

  pub number : k < n
  number = free.pivot.number

  abbrev by : List ℕ
  by = row n t (n + k)

  reads-by : Reads d n by (rows n t (n + k)) (phases n t (n + k))
  reads-by = reads_at free.valid (n + k) (omega (arith, number))

  -- 1/e, and the exponent −f/e for row i
  abbrev pub inverted : ℕ
  inverted = inverse d (x_of by q)

  abbrev pub clearing_of : ℕ → ℕ
  clearing_of i = neg d (x_of (row n t i) q) * inverted % d

  pub inverts : Cong d (rows n t (n + k) q * inverted) 1
  inverts =
      let some : 0 < x_of by q = omega (arith, free.pivot.power) in
      cong_of_mod d _ 1 (free.dimension.rule (x_of by q) some (reads-by.small q (omega (arith, free.qudit))) ∙ sym (mod-eq_of_lt low))

  clears : (i : ℕ) → Cong d (rows n t i q + clearing_of i * rows n t (n + k) q) 0
  clears i =
      clearing d (rows n t i q) (rows n t (n + k) q) inverted (clearing_of i) inverts
      (cong_trans (cong_add (cong_trans (cong_sym (cong_mod d _)) (cong_mul-right inverted (neg_is e (rows n t i q)))) (cong_refl d (rows n t i q * inverted)))
      (record { p = 0; q = rows n t i q * inverted; eq = omega arith }))

  -- The rows after it, with choice m.
  module _ (m : ℕ) where
    abbrev after : List ℕ
    after = collapse d n q k m t

    after-at : (i : ℕ) → i < 2 * n → row n after i ≡ collapse_row d n q k m by i (row n t i)
    unfolding collapse
    after-at i l = on-at n (collapse_row d n q k m by) (collapsed-keeps d n q k m by low) t free.valid.room i l

    pub reads-new : Reads d n (row n after (n + k)) (zed n q) (neg d m)
    unfolding collapse_row
    reads-new =
        reads_of (after-at (n + k) (omega (arith, number)) ∙ rw (ne_eqb (n + k) k (λ z. omega (arith, number)), eq-eqb (n + k) (n + k)))
        (reads_z low n q (neg_small (omega arith) m))

    pub reads-partner :
        Reads d n (row n after k) (λ s. inverted * rows n t (n + k) s)
        (inverted * phases n t (n + k) + tri inverted * half n (rows n t (n + k)) (rows n t (n + k)))
    unfolding collapse_row
    reads-partner = reads_of (after-at k (omega (arith, number)) ∙ rw (eq-eqb k k)) (reads-power (omega arith) inverted reads-by)

    pub reads_other : (i : ℕ) → i < 2 * n → ¬ (i ≡ n + k) → ¬ (i ≡ k)
        → Reads d n (row n after i) (λ s. rows n t i s + clearing_of i * rows n t (n + k) s)
        (phases n t i + (clearing_of i * phases n t (n + k) + tri (clearing_of i) * half n (rows n t (n + k)) (rows n t (n + k)))
        + half n (rows n t i) (λ s. clearing_of i * rows n t (n + k) s))
    unfolding collapse_row
    reads_other i l x y =
        reads_of (after-at i l ∙ rw (ne_eqb i k y, ne_eqb i (n + k) x))
        (reads-product (omega arith) (reads_at free.valid i l) (reads-power (omega arith) (clearing_of i) reads-by))

    pub moved : Moved d n (rows n t) q k inverted clearing_of (rows n after)
    moved =
        record {
          inverse = inverts;
          clears = λ i l. clears i;
          stab-k = reads-new.powers;
          destab_k_lem = reads-partner.powers;
          row = λ i l x y. (reads_other i (omega arith) x y).powers;
        }

    pub measured-after : Measured d n (stabs n t) (signs n t) q (neg d m) k (λ i. clearing_of (n + i)) (stabs n after) (signs n after)
    measured-after =
        measured d n (rows n t) (signs n t) q (neg d m) k inverted clearing_of (rows n after) (signs n after) number moved reads-new.phase
        (λ i l x. (reads_other (n + i) (omega arith) (λ z. x (omega arith)) (λ z. omega (arith, number))).phase)

    pub valid-after : Valid d n after
    unfolding collapse
    valid-after =
        valid-on free.dimension {r = phases n after}
        (kept e n (rows n t) (basis free.valid) q k inverted clearing_of (rows n after) free.qudit number moved)
        (collapsed-keeps d n q k m by low)
        t
        free.valid.room
        (λ i l. reads_of (sym (after-at i l)) (reads_self (rw (after-at i l) (collapsed d n q k m by low i (row n t i)))))

pub collapse-keeps-valid : CollapseKeepsValid
collapse-keeps-valid d n dim t ok q k m lq lm x =
    at-odd (λ z. FreeAt z n t q k → Valid z n (collapse z n q k m t)) (λ f i free. valid-after free m) dim (free-at dim ok lq x)
