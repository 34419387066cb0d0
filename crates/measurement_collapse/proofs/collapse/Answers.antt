-- The pivot's powers make the struct, and the sweep with the two rows put after it is the measurement.
use Rattle.std.proofs.Common.{◌+◌, replicate, refl, ◌∙◌, arith}
use Rattle.row.specs.Row.{Row}
use Rattle.row_laws.proofs.Laws.{power-one}
use Rattle.tableau.proofs.Parts.{tableau-row}
use Rattle.measurement_collapse.proofs.Powers.{widened, powers-none}
use Rattle.measurement_collapse.proofs.Sweep.{measured-is}
use Rattle.measurement_collapse.proofs.collapse.Goals as goal

pub fill_powers-requires-clause-pivot : goal.fill_powers-requires-clause-pivot
fill_powers-requires-clause-pivot c =
    rw c.row-pivot.ensures.value (tableau-row _ _ _ c.requires.rows (c.args.n + c.args.k) (omega arith))

pub fill_powers-requires-clause-none : goal.fill_powers-requires-clause-none
fill_powers-requires-clause-none c = powers-none _ _ _ _ (omega arith) (omega arith) refl

pub invariant_of-measurement : goal.invariant_of-measurement
invariant_of-measurement c =
    let a = c.args in
    let r : Row a.m.d a.n c.row-pivot.result.now = rw c.row-pivot.ensures.value (tableau-row _ _ _ c.requires.rows (a.n + a.k) (omega arith)) in
    let e = c.fill_powers.ensures.at_place 1 (omega arith) ∙ power-one _ _ _ r in
    record {
      low = c.requires.low;
      operands = c.requires.operands;
      prepared =
          record {
            pivot = rw e r;
            powers = rw e c.fill_powers.ensures;
            widened = rw e (widened _ _ (replicate 64 0) (omega arith) c.widen.ensures);
            inverts = rw e c.inverse-inv.ensures;
          };
    }

pub returns : goal.returns
returns c =
    let a = c.args in
    let r : Row a.m.d a.n c.row-pivot.result.now = rw c.row-pivot.ensures.value (tableau-row _ _ _ c.requires.rows (a.n + a.k) (omega arith)) in
    let e = c.fill_powers.ensures.at_place 1 (omega arith) ∙ power-one _ _ _ r in
    let u = c.clear.ensures in
    let m = measured-is a.m.d a.n a.q a.k a.choice c.inverse-inv.result _ a.t.now _ c.requires.rows (omega arith) (omega arith) (omega arith) (rw e c.inverse-inv.ensures) u.rows u.cleared _ c.replace.ensures (e ∙ c.row-pivot.ensures.value) in
    record { collapsed = m.0; rows = m.1 }
