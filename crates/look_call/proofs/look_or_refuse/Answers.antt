use Rattle.std.proofs.Common.{◌≡◌, ℕ, List, sym, ap, ◌∙◌, arith}
use Rattle.std.proofs.lemmas.Result.{err_from_is_err_and}
use borrow.Author.Tests.{ne_eqb}
use Rattle.answer.specs.declared.Answer.{Answer}
use Rattle.answer.specs.declared.Refusal.{Refusal}
use Rattle.answer.specs.Refusal.{number_of}
use Rattle.answer.proofs.Refusals.{refuses}
use Rattle.saved_tableau.specs.Test.{test_number}
use Rattle.saved_tableau_laws.proofs.Rows.{rows-part}
use Rattle.look_call.specs.LookBytes.{told, look_refused, look_bytes}
use Rattle.look_call.proofs.Passes.{passes-test, not_there, looked}
use Rattle.look_call.proofs.look_or_refuse.Goals as goal

abbrev number : Answer → ℕ
number a = a.number

-- the tableau test's refusal is the look's
refused : (t : List ℕ) (q : ℕ) (r : Refusal) → number_of r ≡ test_number t → look_refused (number_of r) ≡ look_bytes t q
unfolding look_bytes
refused t q r e = rw (ne_eqb (test_number t) 0 (λ z. refuses r (e ∙ z)), e)

pub returns-in_err-tested : goal.returns-in_err-tested
returns-in_err-tested c =
    let p = err_from_is_err_and c.from_residual.result c.from_residual.ensures.1 in
    rw (p.1, p.2) (refused c.args.t.now c.args.qudit _ (ap number c.in_err-tested.ensures))

pub bounds-t-0 : goal.bounds-t-0
bounds-t-0 c = let p = passes-test c.args.t.now (sym (ap number c.in_ok-tested.ensures)) in omega (arith, p.two)

pub bounds-t-1 : goal.bounds-t-1
bounds-t-1 c = let p = passes-test c.args.t.now (sym (ap number c.in_ok-tested.ensures)) in omega (arith, p.two)

pub returns-then-qudit-n : goal.returns-then-qudit-n
returns-then-qudit-n c =
    not_there c.args.t.now c.args.qudit (sym (ap number c.in_ok-tested.ensures)) (omega (arith, c.from-n.ensures))

pub look_at-requires : goal.look_at-requires
look_at-requires c =
    let p = passes-test c.args.t.now (sym (ap number c.in_ok-tested.ensures)) in
    rw (c.from-n.ensures, rows-part c.args.t.now) (record { dimension = p.dimension; qudit = omega (arith, c.from-n.ensures); few = p.qudits; valid = p.rows })

pub returns : goal.returns
returns c =
    let e = rw (c.from-n.ensures, rows-part c.args.t.now) at c.look_at.ensures in
    ap told e ∙ looked c.args.t.now c.args.qudit (sym (ap number c.in_ok-tested.ensures)) (omega (arith, c.from-n.ensures))
