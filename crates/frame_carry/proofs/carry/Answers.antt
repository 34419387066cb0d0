use Rattle.std.proofs.Common.{◌≡◌, ◌<◌, length, arith}
use Rattle.modular.proofs.Listed.{dimension}
use Rattle.book.specs.Circuits.{operation_list}
use Rattle.frame_carry.proofs.Steps.{carried_none, carried_on, noted-on, carried-all}
use Rattle.frame_carry.proofs.carry.Goals as goal

pub new-m-requires-clause-positive : goal.new-m-requires-clause-positive
new-m-requires-clause-positive c = omega (arith, (dimension _ c.requires.dimension).low)

pub new-m-requires-clause-high : goal.new-m-requires-clause-high
new-m-requires-clause-high c = (dimension _ c.requires.dimension).high

pub loop-k-init : goal.loop-k-init
loop-k-init c =
    let start = c.default-at.ensures in
    record {
      so_far = λ allows names. carried_none _ _ _ _ _ _ allows names _ _ start.0 start.1.0;
      noted = record { room = c.requires.few; below = λ i l. absurd (omega arith) };
      frame = c.requires.frame;
    }

pub advance-at-requires-clause-position : goal.advance-at-requires-clause-position
advance-at-requires-clause-position c =
    (c.loop-k.invariant.so_far c.requires.allowed c.requires.named).at-step

pub loop-k-preserved : goal.loop-k-preserved
loop-k-preserved c =
    let i = c.loop-k.invariant in
    let after = rw c.new-m.ensures at c.advance-at.ensures in
    let inside : c.loop-k.k < length (operation_list c.args.circuit.now) = omega arith in
    let low : 0 < c.args.circuit.now.d = omega (arith, (dimension _ c.requires.dimension).low) in
    record {
      so_far = λ allows names. carried_on _ _ _ _ _ _ allows names (i.so_far allows names) inside c.requires.room i.noted.room after.moved after.shifted after.noted after.position;
      noted = noted-on _ _ _ _ _ _ c.requires.allowed c.requires.named (i.so_far c.requires.allowed c.requires.named) inside low i.frame i.noted after.noted after.position;
      frame = after.frame;
    }

pub apply_errors-requires-clause-reached : goal.apply_errors-requires-clause-reached
apply_errors-requires-clause-reached c =
    let last : c.count-count.result ≡ c.loop-k.k = omega arith in
    rw last (c.loop-k.invariant.so_far c.requires.allowed c.requires.named).at-step.reached

pub returns-clause-final_frame : goal.returns-clause-final_frame
returns-clause-final_frame c =
    let last : c.count-count.result ≡ c.loop-k.k = omega arith in
    let struck = rw (c.new-m.ensures, last) at c.apply_errors.ensures.struck in
    (carried-all _ _ _ _ _ _ c.requires.allowed c.requires.named (c.loop-k.invariant.so_far c.requires.allowed c.requires.named) (omega arith) (omega arith) struck).0

pub returns-clause-reported : goal.returns-clause-reported
returns-clause-reported c =
    let last : c.count-count.result ≡ c.loop-k.k = omega arith in
    let struck = rw (c.new-m.ensures, last) at c.apply_errors.ensures.struck in
    (carried-all _ _ _ _ _ _ c.requires.allowed c.requires.named (c.loop-k.invariant.so_far c.requires.allowed c.requires.named) (omega arith) (omega arith) struck).1
