-- Each turn is one stage more, and the errors after all operations are the last.
use Rattle.std.proofs.Common.{◌≡◌, ◌+◌, length, arith}
use Rattle.book.specs.Circuits.{operation_list}
use Rattle.halts.proofs.Progress.{going_start, going_more, going-last, going-all}
use Rattle.direct_run.proofs.run_by.Goals as goal

pub loop-k-init : goal.loop-k-init
loop-k-init c = record {
  going = going_start _ _ _ _ _ _ _ c.position-at.ensures.stands c.position-at.ensures.chosen;
  valid = c.requires.valid;
}

pub loop-k-preserved : goal.loop-k-preserved
loop-k-preserved c =
    let after = c.advance-at.ensures in
    record {
      going = going_more _ _ _ _ _ _ _ c.loop-k.invariant.going (omega arith) after.state after.stands after.chosen;
      valid = after.valid;
    }

pub apply_errors-requires-clause-reached : goal.apply_errors-requires-clause-reached
apply_errors-requires-clause-reached c =
    let all : c.count-count.result ≡ c.loop-k.k = omega arith in
    rw all c.loop-k.invariant.going.at-step.reached

pub returns-then-count-next : goal.returns-then-count-next
returns-then-count-next c =
    let ops = operation_list c.args.circuit.now in
    let all : c.loop-k.k ≡ length ops = omega arith in
    let last : c.args.next ≡ length ops + 1 = omega arith in
    rw last (going-last _ _ _ _ _ _ _ (going-all _ _ _ _ _ _ _ c.loop-k.invariant.going all) (rw c.count-count.ensures at c.apply_errors.ensures.rows))
