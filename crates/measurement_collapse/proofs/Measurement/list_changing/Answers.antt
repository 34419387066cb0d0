-- One turn lists row i if it changes.
use Rattle.std.proofs.Common.{refl, arith}
use Rattle.measurement_collapse.specs.Changing.{selected}
use Rattle.measurement_collapse.specs.Clearing.{changed_by}
use Rattle.measurement_collapse.proofs.Sweep.{one_at_most, chosen_more}
use Rattle.measurement_collapse.proofs.Measurement.list_changing.Goals as goal

pub loop-i-init : goal.loop-i-init
unfolding selected
loop-i-init c = (omega arith, refl)

pub loop-i-preserved : goal.loop-i-preserved
loop-i-preserved c =
    let l = c.loop-i in
    (omega (arith, one_at_most (changed_by c.args.self.now c.args.t.now l.i)), chosen_more (changed_by c.args.self.now c.args.t.now) l.i l.list l.count _ (omega arith) l.invariant.1 c.from-count.ensures)
