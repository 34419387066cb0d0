-- `run` meets its contract.
-- Assumes nothing.
use native.Mathlib.Omega.{arith}
use borrow.Author.Rules.{rules}
use mathlib.Core.Path.{sym}
use Prim.Native.Nat.{◌+◌, ◌*◌, ◌≤◌}
use lib.Seq.{length-take-le}
use Rattle.tableau.proofs.Parts.{take-replicate}
use Rattle.tableau.proofs.Sized.{sized-bytes}
use Rattle.lane_shots.specs.LaneShots.{blank}
use Rattle.lane_shots.proofs.Starting.{blank-length}
use Rattle.shots_run.proofs.CleanRun.{few-measured}
use Rattle.shots_run.proofs.Separate.{results-by}
use Rattle.shots_run.proofs.run.Statement.{statement}
use Rattle.shots_run.proofs.run.Tie as tie

few : (o : tie.Start) → o.args.measurements ≤ 4096
few o = omega (arith, o.requires.0.short, few-measured o.requires.0, o.requires.1)

array-borrow-prefix-copy : tie.Need-slice_bounds-copy-end
array-borrow-prefix-copy c = let o = c in omega (arith, sized-bytes o.args.n o.requires.0.qudits)

slice-aggregate-run-in : tie.Need-slice_bounds-run_in-end
slice-aggregate-run-in c =
    let o = c in
    sym (length-take-le (2 * o.args.n * (2 * o.args.n + 1)) (blank 16512) (omega (arith, sized-bytes o.args.n o.requires.0.qudits, blank-length 16512)))

array-borrow-prefix-results : tie.Need-slice_bounds-results-end
array-borrow-prefix-results c = let o = c in omega (arith, few o.before.before.before.before.before.before.before)

slice-aggregate-run-in-2 : tie.Need-slice_bounds-run_in-end-2
slice-aggregate-run-in-2 c =
    let o = c in
    sym (length-take-le (2 * o.args.measurements) (blank 8192) (omega (arith, few o.before.before.before.before.before.before.before.before, blank-length 8192)))

run-in-requires : tie.Need-run_in-requires
run-in-requires c κs =
    let o = c in (
      o.requires.0,
      length-take-le (2 * o.args.n * (2 * o.args.n + 1)) (blank 16512) (omega (arith, sized-bytes o.args.n o.requires.0.qudits, blank-length 16512)),
      rw (← o.requires.1) (take-replicate 0 (2 * o.args.measurements) 8192 (omega (arith, few o.before.before.before.before.before.before.before.before))),
      o.requires.2,
    )

returns : tie.Need-returns
returns c = let o = c in results-by o.requires.0 o.requires.2 c.run_in.ensures

pub run_spec : {M : Type 1} → statement M
run_spec =
    tie.close
    (tie.spec
    (λ c. search rules)
    (λ c. search rules)
    (λ c. search rules)
    (λ c. search rules)
    (λ c. omega (arith, few c.before.before.before.before.before))
    array-borrow-prefix-copy
    slice-aggregate-run-in
    array-borrow-prefix-results
    slice-aggregate-run-in-2
    run-in-requires
    (λ c. search rules)
    returns)
