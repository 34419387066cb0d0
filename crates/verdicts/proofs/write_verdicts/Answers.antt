use native.Mathlib.Nat.{le_antisymm}
use native.Mathlib.Numerals.{add-one}
use Rattle.std.proofs.Common.{◌≡◌, ◌∙◌, refl, ap, arith}
use Rattle.verdicts.specs.Verdicts.{shifted_lanes}
use Rattle.verdicts.proofs.Written.{verdicts_none, verdicts_more, byte_of}
use Rattle.verdicts.proofs.write_verdicts.Goals as goal
use Rattle.verdicts.proofs.write_verdicts.Goals.{After-loop-l}

pub loop-l-init : goal.loop-l-init
unfolding shifted_lanes
loop-l-init c = record { shifted = refl; few = omega arith; written = verdicts_none }

pub overflow_add-shifted : goal.overflow_add-shifted
overflow_add-shifted c = omega (arith, c.from-shifted.ensures, byte_of c.is_lane_shifted-verdict.result, c.loop-l.invariant.few)

pub loop-l-preserved : goal.loop-l-preserved
unfolding shifted_lanes
loop-l-preserved c =
    let i = c.loop-l.invariant in
    let byte = byte_of c.is_lane_shifted-verdict.result in
    let is = byte.0 ∙ c.is_lane_shifted-verdict.ensures in
    record {
      shifted = rw (add-one c.loop-l.l) (omega (arith, c.from-shifted.ensures, is, i.shifted));
      few = omega (arith, c.from-shifted.ensures, byte.1, i.few);
      written = verdicts_more c.loop-l.l _ c.requires.wide c.loop-l-test.true c.requires.shots.room (c.from.ensures ∙ is) i.written;
    }

all-lanes : (c : After-loop-l) → c.loop-l.l ≡ c.args.used
all-lanes c = le_antisymm c.loop-l.auto.l-end c.loop-l-test.false

pub returns-clause-shifted : goal.returns-clause-shifted
returns-clause-shifted c = c.loop-l.invariant.shifted ∙ ap (shifted_lanes _ _ _ _) (all-lanes c)

pub returns-clause-written : goal.returns-clause-written
returns-clause-written c = rw (all-lanes c) at c.loop-l.invariant.written
