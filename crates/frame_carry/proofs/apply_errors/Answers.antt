-- Each error of place k is taken in turn.
use Rattle.std.proofs.Common.{◌≡◌, sym, ◌∙◌, arith}
use Rattle.circuit.specs.Circuit.{err_at}
use Rattle.book.specs.Circuits.{error_list}
use Rattle.runs.specs.Frame.{errors_on_frame}
use Rattle.runs.proofs.Taken.{frame-taken, taken_more, taken-before, taken-after}
use Rattle.frame_carry.proofs.apply_errors.Goals as goal

pub loop-i-init : goal.loop-i-init
unfolding errors_on_frame
loop-i-init c = record {
  struck = sym (taken-before (frame-taken _ _ _ _ c.args.frame.now) c.requires.reached);
  frame = c.requires.frame;
}

pub loop-i-preserved : goal.loop-i-preserved
loop-i-preserved c =
    let circuit = c.args.circuit.now in
    let here : (err_at (error_list circuit) c.loop-i.i).place ≡ c.args.k = c.end_of_place-end.ensures.of_place c.loop-i.i c.loop-i.auto.i c.loop-i-test.true in
    record {
      struck = rw (taken_more (frame-taken c.args.m.d circuit.n (error_list circuit) c.args.k c.args.frame.now) c.loop-i.i here, ← c.loop-i.invariant.struck) (rw c.error.ensures at c.change_frame.ensures.changed);
      frame = c.change_frame.ensures.frame;
    }

pub returns-clause-struck : goal.returns-clause-struck
returns-clause-struck c =
    let circuit = c.args.circuit.now in
    let last : c.loop-i.i ≡ c.end_of_place-end.result = omega arith in
    rw last at c.loop-i.invariant.struck
    ∙ sym (taken-after (frame-taken c.args.m.d circuit.n (error_list circuit) c.args.k c.args.frame.now) c.end_of_place-end.ensures.reached)
