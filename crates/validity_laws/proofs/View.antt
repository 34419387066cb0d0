-- A tableau's rows as functions of `stabilizer`: validity from one to the other, and Z on one qudit.
-- Assumes nothing.
use mathlib.Core.Path.{◌≡◌, sym, ap, ◌∙◌, subst}
use mathlib.Core.Bool.{Bool, cond}
use mathlib.Core.List.{List}
use Prim.Native.Nat.{ℕ, suc, ◌+◌, ◌*◌, ◌≤◌, ◌<◌}
use native.Mathlib.Decide.{ℕ_discrete}
use native.Mathlib.Omega.{arith}
use lib.ListN.{length}
use borrow.Author.Tests.{eq-eqb, ne_eqb}
use Rattle.congruence.proofs.Congruence.{Cong, cong_eq}
use Rattle.congruence.proofs.Sum
use Rattle.symplectic.proofs.Pairing.{pair, zed}
use Rattle.stabilizer.proofs.Span.{Inverses}
use Rattle.stabilizer.proofs.Basis
use Rattle.stabilizer.proofs.Basis.{valid_same}
use Rattle.stabilizer.proofs.Bridge.{inverses, valid, valid-partners, valid-others}
use Rattle.modular.specs.Dimension.{Dimension, inverse}
use Rattle.row.specs.Row.{Row, phase_of, pairing, row_of}
use Rattle.row.specs.Generators.{unit, z_with}
use Rattle.row.proofs.Fill.{row-power, row-phase}
use Rattle.row.proofs.Laws.{unit_row}
use Rattle.row_laws.proofs.Reading.{bytes, Reads, reads-means, reads_self, reads-row, reads_of, pairing-small, pairing-is}
use Rattle.tableau.specs.Tableau.{row, on_rows}
use Rattle.tableau.proofs.Parts.{Keeps, tableau-row, rows-tableau, on-length, on-at}
use Rattle.validity.specs.Validity.{Valid}
use Rattle.validity.proofs.Exactly.{valid-tableau}

-- the powers and the phase of row i
abbrev pub rows : ℕ → List ℕ → ℕ → ℕ → ℕ
rows n t i = bytes (row n t i)

abbrev pub phases : ℕ → List ℕ → ℕ → ℕ
phases n t i = phase_of n (row n t i)

-- A dimension is odd: what is shown of 2f + 1 holds of d.
pub at-odd : (P : ℕ → Type 0) → ((f : ℕ) → Dimension (suc (f + f)) → P (suc (f + f))) → {d : ℕ} → Dimension d → P d
at-odd P h dim = subst (λ (z : ℕ). Dimension z → P z) (sym dim.odd) (h dim.half) dim

pub invertible : {e : ℕ} → Dimension (suc e) → Inverses (suc e)
invertible {e} dim = inverses e (inverse (suc e)) dim.rule

module _ {d n : ℕ} {t : List ℕ} (ok : Valid d n t) where
  pub row_of_lem : (i : ℕ) → i < 2 * n → Row d n (row n t i)
  row_of_lem = tableau-row d n t (valid-tableau d n t ok)

  pub reads_at : (i : ℕ) → i < 2 * n → Reads d n (row n t i) (rows n t i) (phases n t i)
  reads_at i l = reads_self (row_of_lem i l)

-- the pairings of the rows
abbrev paired : ℕ → ℕ → List ℕ → ℕ → ℕ → ℕ
paired d n t i j = pairing d n (row n t i) (row n t j)

pairs : (e n : ℕ) (t : List ℕ) (i j : ℕ) → Cong (suc e) (paired (suc e) n t i j) (pair e n (rows n t i) (rows n t j))
pairs e n t i j = pairing-is e n (row n t i) (row n t j)

pub basis : {e n : ℕ} {t : List ℕ} → Valid (suc e) n t → Basis.SymplecticBasis e n (rows n t)
basis {e} {n} {t} ok =
    valid e n (rows n t) (paired (suc e) n t) (pairs e n t) ok.partners (λ i j li lj. ok.others i j (omega arith) (omega arith))

module _ {e n : ℕ} (dim : Dimension (suc e)) {v : ℕ → ℕ → ℕ} {r : ℕ → ℕ} (ok : Basis.SymplecticBasis e n v) where
  pub valid_of : (t : List ℕ) → 2 * n * (2 * n + 1) ≤ length t → ((i : ℕ) → i < 2 * n → Reads (suc e) n (row n t i) (v i) (r i)) → Valid (suc e) n t
  valid_of t room h =
      record {
        room = room;
        below = (rows-tableau (suc e) n t room (λ i l. reads-row (h i l))).below;
        partners = valid-partners e n (rows n t) (paired (suc e) n t) (pairs e n t) small base (omega (arith, dim.low));
        others = λ i j li lj. valid-others e n (rows n t) (paired (suc e) n t) (pairs e n t) small base i j (omega arith) (omega arith);
      }
    where
      small : (i j : ℕ) → paired (suc e) n t i j < suc e
      small i j = pairing-small (omega arith) n (row n t i) (row n t j)

      base : Basis.SymplecticBasis e n (rows n t)
      base = valid_same e n v (rows n t) (λ i l. (h i (omega arith)).powers) ok

  -- So for the rows that a way over the rows makes.
  pub valid-on : {f : ℕ → List ℕ → List ℕ} → Keeps (2 * n + 1) f → (t : List ℕ) → 2 * n * (2 * n + 1) ≤ length t
      → ((i : ℕ) → i < 2 * n → Reads (suc e) n (f i (row n t i)) (v i) (r i))
      → Valid (suc e) n (on_rows n f t)
  valid-on {f} k t room h =
      valid_of (on_rows n f t) (omega (arith, on-length n f k t room)) (λ i l. reads_of (on-at n f k t room i l) (h i l))

-- 1 at p, else 0.
unit-is : (p s : ℕ) → unit p s ≡ Sum.unit p s
unit-is p s = go (ℕ_discrete s p)
  where
    go : Dec (s ≡ p) → unit p s ≡ Sum.unit p s
    go (yes x) = ap (λ (b : Bool). cond b 1 0) (eq-eqb s p x) ∙ sym (Sum.unit-same p s x)
    go (no x) = ap (λ (b : Bool). cond b 1 0) (ne_eqb s p x) ∙ sym (Sum.unit-other p s x)

pub reads-unit : {d : ℕ} → 1 < d → (n p : ℕ) {r : ℕ} → r < d → Reads d n (row_of n (unit p) r) (Sum.unit p) r
reads-unit {d} low n p {r} l =
    reads-means (unit_row d n p r low l)
    (record { powers = λ s k. cong_eq d (row-power n (unit p) r s (omega arith) ∙ unit-is p s); phase = cong_eq d (row-phase n (unit p) r) })

pub reads_z : {d : ℕ} → 1 < d → (n q : ℕ) {r : ℕ} → r < d → Reads d n (z_with n q r) (zed n q) r
unfolding z_with
reads_z low n q l = reads-unit low n (n + q) l
