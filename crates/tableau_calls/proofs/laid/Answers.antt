use Rattle.std.proofs.Common.{◌≡◌, ℕ, List, sym, ap, ◌∙◌, arith}
use borrow.Author.Tests.{ne_eqb}
use Rattle.std.proofs.lemmas.Result.{err_from_is_err_and}
use Rattle.answer.specs.declared.Answer.{Answer}
use Rattle.answer.specs.declared.Refusal.{Refusal}
use Rattle.answer.specs.Refusal.{refusal}
use Rattle.answer.proofs.Refusals.{refuses}
use Rattle.modular.proofs.Listed.{dimension}
use Rattle.saved_tableau.specs.Shape.{shape_number}
use Rattle.saved_tableau.specs.Layer.{layer_number, layer_leaves}
use Rattle.saved_tableau_laws.proofs.Rows.{named}
use Rattle.saved_tableau_laws.proofs.Shape.{Shaped, shaped}
use Rattle.tableau_calls.proofs.laid.Goals as goal

-- a refusal leaves the buffer
kept : (d n : ℕ) (t : List ℕ) (r : Refusal) → refusal r ≡ record { number = shape_number d n t 0; place = 0 } → t ≡ layer_leaves d n t
unfolding layer_number layer_leaves
kept d n t r e =
    let h = ap (λ (a : Answer). a.number) e in
    rw (ne_eqb (shape_number d n t 0) 0 (λ z. refuses r (h ∙ z)))

-- what is not refused has its shape
module _ (c : goal.After-slice_known-2-1) where
  passed : 0 ≡ shape_number c.args.d c.args.n c.args.t.now 0
  passed = ap (λ (a : Answer). a.number) c.in_ok-shaped.ensures

  shape : Shaped c.args.d c.args.n c.args.t.now
  shape = shaped _ _ _ 0 (sym passed)

pub returns-in_err-shaped-clause-number : goal.returns-in_err-shaped-clause-number
unfolding layer_number
returns-in_err-shaped-clause-number c =
    let p = err_from_is_err_and c.from_residual.result c.from_residual.ensures.1 in rw (p.1, p.2) c.in_err-shaped.ensures

pub returns-in_err-shaped-clause-left : goal.returns-in_err-shaped-clause-left
returns-in_err-shaped-clause-left c = kept c.args.d c.args.n c.args.t.now _ c.in_err-shaped.ensures

pub overflow_cast-t : goal.overflow_cast-t
overflow_cast-t c = omega (arith, (dimension _ (shape c).dimension).high)

pub returns-clause-number : goal.returns-clause-number
unfolding layer_number
returns-clause-number c = c.in_ok-shaped.ensures

pub returns-clause-left : goal.returns-clause-left
unfolding layer_number layer_leaves
returns-clause-left c =
    rw (c.lay_rows.ensures, ← passed c) (named c.args.t.now _ c.args.d c.args.n (omega (arith, (shape c).room)))
