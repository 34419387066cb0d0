use Rattle.std.proofs.Common.{◌≡◌, ℕ, ◌+◌, ◌*◌, ◌/◌, ◌<◌, ◌≤◌, ◌∙◌, length, refl, arith}
use native.Mathlib.Nat.{le_antisymm}
use Rattle.modular.proofs.Listed.{dimension}
use Rattle.circuit.specs.Circuit.{measured}
use Rattle.book.proofs.Lists.{op-count}
use Rattle.runs.proofs.Results.{measured-more}
use Rattle.calendar.specs.Calendar.{lane_errors, AllErrorsApplied}
use Rattle.tile.proofs.Bytes.{shots-kept}
use Rattle.block.specs.declared.clean.CleanRun.{CleanRun}
use Rattle.block.specs.Block.{operations_in, results_in}
use Rattle.block.proofs.Carried.{carried_none}
use Rattle.block.proofs.Results.{results-none, BlockProgress, reported, next-lanes, next-results, next-count, same-applied, carried-last, all_results}
use Rattle.block.proofs.Block.run.Goals as goal
use Rattle.block.proofs.Block.run.Goals.{After-perform, After-loop-k}

pub loop-k-init : goal.loop-k-init
unfolding measured
loop-k-init c =
    let s = c.requires.start in
    record {
      lanes = carried_none;
      powers = s.lanes;
      queued = s.queued;
      results = results-none s.first s.count;
      room = omega (arith, s.count);
      count = omega (arith, s.first, s.count);
      used = refl;
    }

-- what has been measured fits a shot
wide : (clean : CleanRun) (k j : ℕ) → k ≤ length clean.ops.now / 4 → j ≡ measured (operations_in clean) k → 1 + 2 * j ≤ clean.w
wide clean k j inside e =
    let list = operations_in clean in
    omega (arith, e, clean.width, measured-more list k (length list) (omega (arith, inside, op-count clean.m.d clean.n clean.ops.now)))

pub perform-requires-clause-reported : goal.perform-requires-clause-reported
perform-requires-clause-reported c =
    let clean = c.args.clean.now in
    let i = c.loop-k.invariant in
    let low : 0 < clean.m.d = omega (arith, (dimension _ clean.circuit.dimension).low) in
    let r = reported c.loop-k.self (rw (← i.used) at i.results) low (rw i.used (shots-kept c.requires.shots c.loop-k.auto.out)) (wide clean c.loop-k.k _ (omega arith) i.count) in
    record { shots = r.shots; wide = r.wide; below = r.below }

applied : (c : After-perform) → AllErrorsApplied c.args.clean.now.m.d c.args.clean.now.n (lane_errors c.args.errors.now) c.loop-k.k c.loop-k.self.lanes c.apply_at_place.new.v
applied c = same-applied c.requires.start.dimension c.requires.start.qudits c.apply_at_place.ensures.applied

counted : (c : After-perform) → results_in c.perform.new.self.held ≡ measured (operations_in c.args.clean.now) (c.loop-k.k + 1)
counted c =
    next-count c.loop-k.self c.apply_at_place.new.v c.apply_at_place.new.self c.requires.shots.lanes c.requires.start.empty c.loop-k-test.true c.loop-k.invariant (applied c) c.perform.ensures.stepped

pub flush_full-requires-clause-wide : goal.flush_full-requires-clause-wide
flush_full-requires-clause-wide c =
    let p = (goal.at.flush_full-requires-clause-wide c).After-perform in
    wide c.args.clean.now (c.loop-k.k + 1) _ (omega arith) (counted p)

pub loop-k-preserved : goal.loop-k-preserved
loop-k-preserved c =
    let p = (goal.at.loop-k-preserved c).After-perform in
    let i = c.loop-k.invariant in
    let few = c.requires.shots.lanes in
    let empty = c.requires.start.empty in
    let u = c.apply_at_place.new.v in
    let queue = c.apply_at_place.new.self in
    let stepped = c.perform.ensures.stepped in
    let e = c.flush_full.ensures in
    let results = next-results c.loop-k.self u queue few empty c.loop-k-test.true i (applied p) stepped in
    record {
      lanes = rw e.lanes (next-lanes c.loop-k.self u queue few empty c.loop-k-test.true i (applied p) stepped);
      powers = rw e.lanes c.perform.ensures.lanes;
      queued = rw (e.queue, c.perform.ensures.queue) c.apply_at_place.ensures.queue;
      results = rw (← i.used, ← c.perform.ensures.used) (e.results _ (rw (c.perform.ensures.used, i.used) results));
      room = e.room;
      count = e.count ∙ counted p;
      used = e.used ∙ c.perform.ensures.used ∙ i.used;
    }

pub flush-requires-clause-wide : goal.flush-requires-clause-wide
flush-requires-clause-wide c = wide c.args.clean.now c.loop-k.k _ (omega arith) c.loop-k.invariant.count

-- past the last operation
last : (c : After-loop-k) → BlockProgress c.args.clean.now (lane_errors c.args.errors.now) (length c.args.clean.now.ops.now / 4) c.args.self.now c.loop-k.out c.loop-k.self
last c = rw (le_antisymm c.loop-k.auto.k-end c.loop-k-test.false) at c.loop-k.invariant

pub returns-clause-carried : goal.returns-clause-carried
returns-clause-carried c =
    carried-last c.requires.shots.lanes (last (goal.at.returns-clause-carried c).After-loop-k)
    (same-applied c.requires.start.dimension c.requires.start.qudits c.apply_at_place-2.ensures.applied)

pub returns-clause-results : goal.returns-clause-results
returns-clause-results c =
    let e = c.flush.ensures in
    all_results c.requires.shots.lanes (last (goal.at.returns-clause-results c).After-loop-k) c.flush.new.self c.loop-k.auto.out (rw c.loop-k.invariant.used at e.flushed) e.first e.count
