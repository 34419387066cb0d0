use Rattle.std.proofs.Common.{◌≡◌, ◌+◌, ◌-◌, ◌<◌, ◌∙◌, length, refl, ap₂, not, eqb, length-set, arith}
use native.Mathlib.Nat.{le_antisymm}
use native.Mathlib.Numerals.{add-one}
use Rattle.verdicts.proofs.Written.{byte_of}
use Rattle.tray.specs.Tray.{start_of}
use Rattle.expand.specs.Expand.{noisy_among}
use Rattle.blocks.proofs.Assignment.{noisy_counted, noisy_some, assigned_none, assigned_more}
use Rattle.blocks.proofs.assign.Goals as goal
use Rattle.blocks.proofs.assign.Goals.{After-loop-shot}

pub loop-shot-init : goal.loop-shot-init
unfolding noisy_among
loop-shot-init c =
    let q : c.args.from.shot - c.args.from.shot ≡ 0 = omega arith in
    record {
      assigned = rw q (assigned_none c.args.tray.now c.args.from.shot c.requires.blank);
      noisy_count = rw q refl;
      few = omega arith;
      room = c.told-spans;
      begins = c.requires.begins;
    }

pub returns-then-noisy-eq256-clause-assigned : goal.returns-then-noisy-eq256-clause-assigned
returns-then-noisy-eq256-clause-assigned c = c.loop-shot.invariant.assigned

pub returns-then-noisy-eq256-clause-some : goal.returns-then-noisy-eq256-clause-some
returns-then-noisy-eq256-clause-some c =
    omega (arith, noisy_some c.args.tray.now c.args.from.shot (c.loop-shot.shot - c.args.from.shot) (omega (arith, c.loop-shot.invariant.noisy_count, c.if-noisy-eq256.true)))

pub returns-then-noisy-eq256-clause-block : goal.returns-then-noisy-eq256-clause-block
returns-then-noisy-eq256-clause-block c =
    let i = c.loop-shot.invariant in
    record { inside = omega (arith, c.word-shots.ensures.0); noisy_count = i.noisy_count; lanes = i.few }

pub returns-then-noisy-eq256-clause-begins : goal.returns-then-noisy-eq256-clause-begins
returns-then-noisy-eq256-clause-begins c = c.loop-shot.invariant.begins

pub overflow_add-start : goal.overflow_add-start
overflow_add-start c =
    let inside = c.requires.lies.inside c.loop-shot.shot (omega (arith, c.word-shots.ensures.0)) in
    omega (arith, inside, c.loop-shot.invariant.begins, c.word-size.ensures.0)

pub loop-shot-preserved : goal.loop-shot-preserved
unfolding start_of
loop-shot-preserved c =
    let tray = c.args.tray.now in
    let first = c.args.from.shot in
    let shot = c.loop-shot.shot in
    let i = c.loop-shot.invariant in
    let at : first + (shot - first) ≡ shot = omega arith in
    let next : shot + 1 - first ≡ shot - first + 1 = omega arith in
    let room : c.loop-shot.noisy < length c.loop-shot.spans = omega (arith, i.room, i.few) in
    record {
      assigned = rw next
          (assigned_more tray first (shot - first) c.loop-shot.noisy _ i.noisy_count room (rw at (omega (arith, c.word-shots.ensures.0))) (rw at i.begins) (rw at c.word-size.ensures.0) i.assigned);
      noisy_count = rw next
          (noisy_counted tray first (shot - first) c.loop-shot.noisy _ i.noisy_count (rw (at, ← c.word-size.ensures.0) c.from-noisy.ensures));
      few = omega (arith, i.few, c.from-noisy.ensures, byte_of (not (eqb c.word-size.result 0)));
      room = length-set c.loop-shot.spans c.loop-shot.noisy _ ∙ i.room;
      begins = rw (add-one shot) (ap₂ ◌+◌ i.begins c.word-size.ensures.0);
    }

-- no shot is left
end : (c : After-loop-shot) → c.loop-shot.shot ≡ c.word-shots.result
end c = le_antisymm (c.loop-shot.auto.shot-end (omega (arith, c.requires.shot_in, c.word-shots.ensures.0))) c.loop-shot-test.false

pub returns-clause-assigned : goal.returns-clause-assigned
returns-clause-assigned c = rw (end c) at c.loop-shot.invariant.assigned

pub returns-clause-block : goal.returns-clause-block
returns-clause-block c =
    let i = c.loop-shot.invariant in
    record { inside = omega (arith, c.word-shots.ensures.0, c.requires.shot_in); noisy_count = rw (end c) at i.noisy_count; lanes = i.few }

pub returns-clause-begins : goal.returns-clause-begins
returns-clause-begins c = rw (end c) at c.loop-shot.invariant.begins
