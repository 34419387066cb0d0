use Rattle.std.proofs.Common.{◌≡◌, ℕ, ◌+◌, ◌*◌, ◌/◌, ◌<◌, true, length, get_or, refl, sym, ap, arith, rules}
use Rattle.operation.specs.Operation.{allowed}
use Rattle.circuit.specs.Circuit.{kind}
use Rattle.book.proofs.Lists.{op-count}
use Rattle.operation_codes.proofs.Codes.{code-gate, code-no-gate}
use Rattle.block.specs.declared.clean.CleanRun.{CleanRun}
use Rattle.block.specs.Block.{operation_in, results_in, gated, measured-to, reset, corrected}
use Rattle.block.proofs.Results.{measured-room, corrected-room}
use Rattle.block.proofs.Block.perform.Goals as goal
use Rattle.block.proofs.Block.perform.Goals.{In-Measure, In-Reset, In-Correct}

good : (clean : CleanRun) (k : ℕ) → k < length clean.ops.now / 4 → allowed clean.m.d clean.n (operation_in clean k) ≡ true
good clean k inside = clean.circuit.operations k (omega (arith, inside, op-count clean.m.d clean.n clean.ops.now))

-- a code below 6 is a gate's, and from 6 up there is none
pub returns-then-clean-k-lt6-clause-stepped : goal.returns-then-clean-k-lt6-clause-stepped
returns-then-clean-k-lt6-clause-stepped c =
    let clean = c.args.clean.now in
    let inside = c.requires.at.inside in
    gated (code-gate clean.m.d clean.n clean.ops.now c.args.k inside (good clean c.args.k inside) c.if-clean-k-lt6.true) c.perform.ensures.changed refl

pub unreachable-requires : goal.unreachable-requires
unreachable-requires c =
    let clean = c.args.clean.now in
    let inside = c.requires.at.inside in
    let no_gate = rw (sym c.operation_of.ensures) at (code-no-gate clean.m.d clean.n clean.ops.now c.args.k inside (good clean c.args.k inside) c.if-clean-k-lt6.false) in
    search rules

pub operation_of-requires : goal.operation_of-requires
operation_of-requires c = (c.requires.at.inside, good c.args.clean.now c.args.k c.requires.at.inside)

-- a measurement has its clean result
room : (c : In-Measure) → let clean = c.args.clean.now in
    let j = results_in c.args.self.now.held in
    (2 * j + 1 < length clean.results.now) × (get_or clean.results.now (2 * j) 0 < clean.m.d) × (c.in-Measure.q < clean.n)
room c =
    let clean = c.args.clean.now in
    measured-room _ _ _ _ clean.circuit c.args.k _ _ c.requires.at.inside c.requires.at.before (sym c.in-Measure.ensures)

pub bounds-clean-j : goal.bounds-clean-j
bounds-clean-j c = omega (arith, (room c).0)

pub bounds-clean-j-in-Measure : goal.bounds-clean-j-in-Measure
bounds-clean-j-in-Measure c = omega (arith, (room (goal.at.bounds-clean-j-in-Measure c).In-Measure).0)

pub push-requires-clause-qudit_in : goal.push-requires-clause-qudit_in
push-requires-clause-qudit_in c = (room (goal.at.push-requires-clause-qudit_in c).In-Measure).2

pub push-requires-clause-outcome_in : goal.push-requires-clause-outcome_in
push-requires-clause-outcome_in c = (room (goal.at.push-requires-clause-outcome_in c).In-Measure).1

pub returns-in-Measure-clause-stepped : goal.returns-in-Measure-clause-stepped
returns-in-Measure-clause-stepped c =
    let e = c.push.ensures in
    measured-to c.in-Measure.q (ap kind (sym c.in-Measure.ensures)) (room (goal.at.returns-in-Measure-clause-stepped c).In-Measure).2 refl
    (record { row = e.row; mark_too = e.mark; first = e.first; count = e.count })

pub returns-in-Reset-clause-stepped : goal.returns-in-Reset-clause-stepped
returns-in-Reset-clause-stepped c = let is = ap kind (sym c.in-Reset.ensures) in search (rules, reset)

pub returns-in-Correct-clause-stepped : goal.returns-in-Correct-clause-stepped
returns-in-Correct-clause-stepped c =
    let clean = c.args.clean.now in
    let e = c.correct.ensures in
    let room = corrected-room _ _ _ _ clean.circuit c.args.k c.in-Correct.t c.in-Correct.i c.requires.at.inside (sym c.in-Correct.ensures) in
    corrected c.in-Correct.t c.in-Correct.i (ap kind (sym c.in-Correct.ensures)) (omega (arith, room.0, c.requires.at.before)) e.corrected e.held
