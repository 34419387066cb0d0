use Rattle.std.proofs.Common.{◌∙◌, arith, length-set}
use Rattle.columns.proofs.Laying.{laid_none, laid_more}
use Rattle.columns.proofs.lay_columns.Goals as goal

pub loop-s-init : goal.loop-s-init
loop-s-init c = record { len = omega arith; laid = laid_none _ _ c.requires.zeros }

pub loop-s-preserved : goal.loop-s-preserved
loop-s-preserved c =
    let l = c.loop-s in
    record {
      len = length-set l.columns l.s _ ∙ l.invariant.len;
      laid = laid_more _ _ _ _ _ c.requires.rows (omega arith) (omega arith) l.invariant.laid c.lay_column.ensures;
    }
