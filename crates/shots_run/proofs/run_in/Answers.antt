-- The clean run is that on the copy, and every shot is filled by it.
use Rattle.std.proofs.Common.{◌+◌, ◌*◌, arith}
use Rattle.modular.proofs.Listed.{dimension}
use Rattle.tableau.specs.Tableau.{part}
use Rattle.block.specs.Clean.{CleanShots}
use Rattle.shots_run.proofs.CleanRun.{loaded, copied-valid, run_shots_lem, filled-by-clean}
use Rattle.shots_run.proofs.run_in.Goals as goal
use Rattle.shots_run.proofs.run_in.Goals.{After-new}

pub run-measurements-requires-clause-valid : goal.run-measurements-requires-clause-valid
unfolding part
run-measurements-requires-clause-valid c = rw (c.copy_from_slice.ensures.after, c.requires.1) (copied-valid c.requires.0)

pub new-requires-clause-positive : goal.new-requires-clause-positive
new-requires-clause-positive c = omega (arith, (dimension _ c.requires.0.dimension).low)

pub new-requires-clause-high : goal.new-requires-clause-high
new-requires-clause-high c = (dimension _ c.requires.0.dimension).high

-- what the shots take
shots : (c : After-new) → let a = c.args in CleanShots c.new.result.d a.n a.ops.now c.run-measurements.new.results c.run-measurements.new.t (1 + 2 * c.run-measurements.result)
shots c =
    let by_run = run_shots_lem c.requires.0 c.args.copy.now _ _ _ _ c.requires.1 c.copy_from_slice.ensures.after c.requires.2 c.run-measurements.ensures.state in
    rw (c.new.ensures, c.run-measurements.ensures.measurements) by_run

pub invariant_of-clean : goal.invariant_of-clean
invariant_of-clean c = let s = shots (goal.at.invariant_of-clean c).After-new in record { circuit = s.circuit; width = s.width }

pub invariant_of-fill : goal.invariant_of-fill
invariant_of-fill c = record { errors = rw c.new.ensures (loaded c.requires.0); clean_shots = shots (goal.at.invariant_of-fill c).After-new }

pub fill-requires : goal.fill-requires
fill-requires c = rw c.run-measurements.ensures.measurements c.requires.3

pub returns : goal.returns
returns c =
    filled-by-clean c.requires.0 c.args.copy.now _ _ _ _ c.requires.1 c.copy_from_slice.ensures.after c.requires.2 c.run-measurements.ensures.state
    (rw (c.new.ensures, c.run-measurements.ensures.measurements) at c.fill.ensures.filled, rw c.new.ensures at c.fill.ensures.shifted)
