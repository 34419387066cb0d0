-- `frame_run::run` meets its contract.
-- Assumes nothing.
use mathlib.Core.Path.{sym}
use Prim.Native.Nat.{◌*◌}
use native.Mathlib.Omega.{arith}
use lib.ListN.{replicate}
use lib.Seq.{length-take-le}
use borrow.Author.Rules.{rules}
use Rattle.tableau.proofs.Parts.{take-replicate}
use Rattle.saved_tableau_laws.proofs.Rows.{rows-part}
use Rattle.frame_run.proofs.Ends.{tableau-ends}
use Rattle.frame_run.proofs.run.Statement.{statement}
use Rattle.frame_run.proofs.run.Tie as tie

slice-aggregate-run-in : tie.Need-slice_bounds-run_in-end-2
slice-aggregate-run-in c =
    let s = c in
    sym (length-take-le (2 * s.args.n) (replicate 128 0) (omega (arith, s.requires.0.qudits)))

run-in-requires : tie.Need-run_in-requires
run-in-requires c κs =
    let s = c in
    let p = s.requires in
    (p.0, p.1, take-replicate 0 (2 * s.args.n) 128 (omega (arith, p.0.qudits)), rw (rows-part s.args.t.now) p.3)

returns : tie.Need-returns
returns c =
    let r = c in
    let t = r.args.t.now in
    let e = rw (rows-part t) at r.run_in.ensures in
    tableau-ends t e.0 e.1 e.2

pub run_spec : {M : Type 1} → statement M
run_spec =
    tie.close
    (tie.spec
    (λ c. search rules)
    (λ c. search rules)
    (λ c. search rules)
    (λ c. search rules)
    (λ c. omega (arith, c.requires.0.qudits))
    slice-aggregate-run-in
    run-in-requires
    (λ c. search rules)
    (λ c. search rules)
    (λ c. search rules)
    (λ c. search rules)
    returns)
