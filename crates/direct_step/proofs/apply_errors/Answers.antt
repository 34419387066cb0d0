-- Each error of place k is taken in turn, and the first of a later place ends them.
use Rattle.std.proofs.Common.{◌≡◌, ◌<◌, length, sym, ◌∙◌, arith}
use Rattle.modular.proofs.Listed.{dimension}
use Rattle.validity.proofs.Exactly.{valid-tableau}
use Rattle.validity_laws.proofs.Keeping.{error-keeps-valid}
use Rattle.circuit.specs.Circuit.{err_at}
use Rattle.book.specs.Circuits.{error_list}
use Rattle.runs.specs.Direct.{errors_on_rows}
use Rattle.runs.proofs.Taken.{rows_taken, taken_more, taken-before, taken-after, passing-first, passing-more, passing-other, passing-last}
use Rattle.direct_step.proofs.apply_errors.Goals as goal

pub loop-i-init : goal.loop-i-init
unfolding errors_on_rows
loop-i-init c = record {
  passing = passing-first c.requires.reached;
  so_far = sym (taken-before (rows_taken _ _ _ _ c.args.t.now) c.requires.reached);
  valid = c.requires.valid;
}

pub error_rows-requires : goal.error_rows-requires
error_rows-requires c =
    rw c.requires.made.made
    (record {
      few = c.requires.made.qudits;
      allowed = rw c.error-e.ensures (c.requires.in_order.each c.loop-i.i (omega arith));
      rows = valid-tableau _ _ _ c.loop-i.invariant.valid;
    })

pub returns-then-e-k : goal.returns-then-e-k
returns-then-e-k c =
    let circuit = c.args.circuit.now in
    let end = passing-other c.loop-i.invariant.passing (omega arith) (rw c.error-e.ensures at c.if-e-k.true) c.requires.in_order.in_order in
    record {
      rows = c.loop-i.invariant.so_far ∙ sym (taken-after (rows_taken _ _ (error_list circuit) c.args.k c.args.t.now) end);
      reached = end;
      valid = c.loop-i.invariant.valid;
    }

pub loop-i-preserved : goal.loop-i-preserved
loop-i-preserved c =
    let circuit = c.args.circuit.now in
    let es = error_list circuit in
    let in_list : c.loop-i.i < length es = omega arith in
    let here : (err_at es c.loop-i.i).place ≡ c.args.k = rw c.error-e.ensures at c.if-e-k.false in
    let struck = rw (c.requires.made.made, c.error-e.ensures) at c.error_rows.ensures in
    record {
      passing = passing-more c.loop-i.invariant.passing in_list here;
      so_far = rw (taken_more (rows_taken circuit.d circuit.n es c.args.k c.args.t.now) c.loop-i.i here, ← c.loop-i.invariant.so_far) struck;
      valid = rw struck (error-keeps-valid _ _ (dimension _ c.requires.made.dimension) _ (c.requires.in_order.each c.loop-i.i in_list) _ c.loop-i.invariant.valid);
    }

pub returns : goal.returns
returns c =
    let circuit = c.args.circuit.now in
    let end = passing-last c.loop-i.invariant.passing (omega arith) in
    let all : c.error_count-count.result ≡ c.loop-i.i = omega (arith, c.requires.reached.inside) in
    record {
      rows = c.loop-i.invariant.so_far ∙ sym (taken-after (rows_taken _ _ (error_list circuit) c.args.k c.args.t.now) end);
      reached = rw all end;
      valid = c.loop-i.invariant.valid;
    }
