-- The verdict is clean exactly if the shifted rows have the same stabilizer set: a shift keeps the powers of every row, and a
-- stabilizer set has one member with given powers.
-- Assumes nothing.
use mathlib.Core.Path.{◌≡◌, refl, sym, ap, ◌∙◌}
use mathlib.Core.Bool.{Bool, true, false, cond}
use Prim.Native.Nat.{ℕ, ◌+◌, ◌<◌}
use native.Mathlib.Omega.{arith}
use borrow.Author.Tests.{eq-eqb, eqb-true}
use Rattle.search.proofs.Search.{all-at, all_from}
use Rattle.tableau.specs.Tableau.{row}
use Rattle.validity.proofs.Exactly.{valid-tableau}
use Rattle.validity_laws.proofs.View.{row_of_lem}
use Rattle.measurement_laws.specs.Stabilizers.{SameSet}
use Rattle.measurement_laws.proofs.Sets.{same_set, settled-row}
use Rattle.runs.specs.Frame.{shift_at, shift_row, shift_rows, no_shift, verdict_of}
use Rattle.run_laws.specs.Carrying.{CleanRows}
use Rattle.run_laws.proofs.Shift.{shift-stays, stays-pairs}
use Rattle.run_laws.proofs.Rows.{shifted_row, shifted_at}
use Rattle.run_laws.proofs.Looks.{shift-keeps-valid}

verdict-clean : (b : Bool) → cond {A = ℕ} b 0 1 ≡ 0 → b ≡ true
verdict-clean true e = refl
verdict-clean false e = absurd (omega arith)

pub clean-rows : CleanRows
unfolding verdict_of
clean-rows d n dim t F ok = (to, from)
  where
    shifted : (i : ℕ) → i < n → row n (shift_rows d n F t) (n + i) ≡ shift_row d n F (row n t (n + i))
    shifted i l = shifted_row d n F t (valid-tableau d n t ok) (n + i) (omega arith)

    to : verdict_of d n F t ≡ 0 → SameSet d n (shift_rows d n F t) t
    to c =
        let none = all-at (no_shift d n F t) n (verdict-clean _ c) in
        same_set d n (λ i l. shifted i l ∙ shift-stays d n F (row_of_lem ok (n + i) (omega arith)) (eqb-true _ 0 (none i l)))

    pairs : SameSet d n (shift_rows d n F t) t → (i : ℕ) → i < n → shift_at d n F t (n + i) ≡ 0
    pairs same i l =
        stays-pairs d n F (row_of_lem ok (n + i) (omega arith))
        (sym (shifted i l)
        ∙ settled-row dim (shift-keeps-valid d n dim t F ok) ok same i l
        (λ s k. shifted_at d n F t (valid-tableau d n t ok) (n + i) s (omega arith) k))

    from : SameSet d n (shift_rows d n F t) t → verdict_of d n F t ≡ 0
    from same = ap (λ (b : Bool). cond b 0 1) (all_from (no_shift d n F t) n (λ i l. eq-eqb _ 0 (pairs same i l)))
