-- `tray_run::run_shots` meets its contract.
-- Assumes nothing.
use borrow.Author.Rules.{rules}
use Rattle.saved_tableau_laws.proofs.Rows.{rows-part}
use Rattle.tray_run.proofs.run_shots.Statement.{statement}
use Rattle.tray_run.proofs.run_shots.Tie as tie

run-requires : tie.Need-run-requires
run-requires c κs =
    let s = c in
    rw (rows-part s.args.t.now) (s.requires.1, s.requires.2, s.requires.3)

returns : tie.Need-returns
returns c =
    let r = c in
    rw (← rows-part r.args.t.now) r.run.ensures

pub run_shots_spec : {M : Type 1} → statement M
run_shots_spec =
    tie.close
    (tie.spec
    (λ c. search rules)
    (λ c. search rules)
    (λ c. search rules)
    run-requires
    (λ c. search rules)
    returns)
