use Rattle.std.proofs.Common.{◌≡◌, true, sym, ◌∙◌}
use Rattle.saved_tableau.specs.Saved.{names, valid_for}
use Rattle.saved_tableau_laws.proofs.Exactly.{rows_decide, is-named}
use Rattle.tableau_calls.proofs.is_valid_for.Goals as goal

pub returns-then-not-is_named : goal.returns-then-not-is_named
unfolding valid_for
returns-then-not-is_named c = rw (sym c.is_named.ensures ∙ c.if-not-is_named.true)

pub returns : goal.returns
unfolding valid_for
returns c =
    let t = c.args.t.now in
    let yes : names c.args.d c.args.n t ≡ true = sym c.is_named.ensures ∙ c.if-not-is_named.false in
    let q = is-named t yes in
    rw (yes, rows_decide t (rw q.0 c.requires.0) (rw q.1 c.requires.1), q.0, q.1) c.rows_valid.ensures
