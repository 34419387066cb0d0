use Rattle.std.proofs.Common.{◌≡◌, Bool, true, false, cond, ℕ, ◌≤◌, List, length, sym, ap, ◌∙◌}
use borrow.Author.Tests.{lt-leb, le-leb}
use Rattle.std.proofs.lemmas.Result.{err_from_is_err_and}
use Rattle.answer.specs.declared.Answer.{Answer}
use Rattle.answer.specs.declared.Refusal.{Refusal}
use Rattle.answer.specs.Refusal.{refusal}
use Rattle.answer.proofs.Refusals.{refuses}
use Rattle.validity.specs.Validity.{valid}
use Rattle.saved_tableau.specs.Saved.{dimension_in, qudits_in, rows_in}
use Rattle.saved_tableau.specs.Shape.{shape_number}
use Rattle.saved_tableau.specs.Test.{test_number}
use Rattle.saved_tableau_laws.proofs.Exactly.{rows_decide}
use Rattle.saved_tableau_laws.proofs.Shape.{Shaped, shaped, unshaped}
use Rattle.tableau_calls.proofs.tested.Goals as goal

abbrev placeless : ℕ → Answer
placeless number = record { number = number; place = 0 }

module _ (t : List ℕ) (two : 2 ≤ length t) where
  abbrev shape : ℕ
  shape = shape_number (dimension_in t) (qudits_in t) t 0

  -- 2, 3 and 8 stand; without them the rows decide
  stands : (r : Refusal) → refusal r ≡ placeless shape → refusal r ≡ placeless (test_number t)
  unfolding test_number
  stands r e =
      let h = ap (λ (a : Answer). a.number) e in
      rw (le-leb 2 (length t) two, unshaped (dimension_in t) (qudits_in t) t _ (λ z. refuses r (h ∙ z))) e

  -- where none of them refuses, the rows decide
  module _ (e : placeless 0 ≡ placeless shape) where
    k : Shaped (dimension_in t) (qudits_in t) t
    k = shaped _ _ _ 0 (sym (ap (λ (a : Answer). a.number) e))

    decides : (b : Bool) → b ≡ valid (dimension_in t) (qudits_in t) (rows_in t) → placeless (cond b 0 9) ≡ placeless (test_number t)
    unfolding test_number
    decides true v = rw (le-leb 2 (length t) two, k.rest_decides _, rows_decide t k.dimension k.qudits-sized, ← v)
    decides false v = rw (le-leb 2 (length t) two, k.rest_decides _, rows_decide t k.dimension k.qudits-sized, ← v)

pub returns-then-t-lt2 : goal.returns-then-t-lt2
unfolding test_number
returns-then-t-lt2 c = rw (lt-leb _ _ c.if-t-lt2.true)

pub returns-in_err-shaped : goal.returns-in_err-shaped
returns-in_err-shaped c =
    let p = err_from_is_err_and c.from_residual.result c.from_residual.ensures.1 in
    rw (p.1, p.2) (stands c.args.t.now c.if-t-lt2.false _ (rw (← c.from.ensures, ← c.from-n.ensures) c.in_err-shaped.ensures))

pub returns-then-not-rows_valid : goal.returns-then-not-rows_valid
returns-then-not-rows_valid c =
    decides c.args.t.now c.if-t-lt2.false (rw (← c.from.ensures, ← c.from-n.ensures) c.in_ok-shaped.ensures)
    false (rw (← c.from-n.ensures) c.if-not-rows_valid.ensures)

pub returns : goal.returns
returns c =
    decides c.args.t.now c.if-t-lt2.false (rw (← c.from.ensures, ← c.from-n.ensures) c.in_ok-shaped.ensures)
    true (rw (← c.from-n.ensures) c.if-not-rows_valid.ensures)
