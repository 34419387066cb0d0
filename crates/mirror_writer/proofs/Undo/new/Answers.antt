use Rattle.std.proofs.Common.{refl, ◌∙◌, arith}
use Rattle.modular.proofs.Listed.{dimension}
use Rattle.row.proofs.Fill.{filled_none, filled_more, filled-all, filled-whole}
use Rattle.mirror_writer.proofs.Undo.new.Goals as goal

pub loop-u-init : goal.loop-u-init
loop-u-init c = filled_none _ _

pub inverse-requires : goal.inverse-requires
inverse-requires c = let dim = dimension _ c.requires in (dim.low, dim.high)

pub loop-u-preserved : goal.loop-u-preserved
loop-u-preserved c = filled_more _ _ _ _ c.loop-u.invariant (omega arith) _ c.inverse.ensures

pub invariant_of-result : goal.invariant_of-result
invariant_of-result c =
    record {
      inverse_table = filled-all _ _ _ _ 32 c.loop-u.invariant c.loop-u.auto.u-end c.loop-u-test.false ∙ filled-whole _ _ _ refl;
      order_table = refl;
    }
