-- A seen pivot is one of the stabilizers, and a seen outcome is below d.
use Rattle.std.proofs.Common.{sym, arith}
use Rattle.modular.proofs.Listed.{dimension}
use Rattle.validity.proofs.Exactly.{valid-tableau}
use Rattle.measure_step.specs.Measured.{rows_measured, outcome_of, mark_of}
use Rattle.measure_step.proofs.Fits.{look-fits, collapse-valid}
use Rattle.measure_step.proofs.measured.Goals as goal

pub collapse-requires : goal.collapse-requires
collapse-requires c =
    let a = c.args in
    let D = dimension a.d c.requires.made.dimension in
    rw c.new.ensures (record { low = D.low; operands = record { size = c.requires.made.qudits; qudit = c.requires.qudit; stabilizer = look-fits a.d a.n a.t.now a.q (omega arith) (sym c.in-Free.ensures); below = c.requires.supplied.below a.c (omega arith) (omega arith) }; rows = valid-tableau _ _ _ c.requires.valid })

pub returns-in-Free-clause-rows : goal.returns-in-Free-clause-rows
unfolding rows_measured
returns-in-Free-clause-rows c = rw (← c.in-Free.ensures) (rw c.new.ensures at c.collapse.ensures.collapsed)

pub returns-in-Free-clause-outcome : goal.returns-in-Free-clause-outcome
unfolding outcome_of
returns-in-Free-clause-outcome c = rw (← c.in-Free.ensures)

pub returns-in-Free-clause-mark : goal.returns-in-Free-clause-mark
unfolding mark_of
returns-in-Free-clause-mark c = rw (← c.in-Free.ensures)

pub returns-in-Free-clause-valid : goal.returns-in-Free-clause-valid
returns-in-Free-clause-valid c =
    let a = c.args in
    collapse-valid (dimension a.d c.requires.made.dimension) a.t.now c.requires.valid c.requires.qudit (c.requires.supplied.below a.c (omega arith) (omega arith)) (sym c.in-Free.ensures) (rw c.new.ensures at c.collapse.ensures.collapsed)

pub returns-in-Certain-clause-rows : goal.returns-in-Certain-clause-rows
unfolding rows_measured
returns-in-Certain-clause-rows c = rw (← c.in-Certain.ensures)

pub returns-in-Certain-clause-outcome : goal.returns-in-Certain-clause-outcome
unfolding outcome_of
returns-in-Certain-clause-outcome c = rw (← c.in-Certain.ensures)

pub returns-in-Certain-clause-mark : goal.returns-in-Certain-clause-mark
unfolding mark_of
returns-in-Certain-clause-mark c = rw (← c.in-Certain.ensures)

pub returns-in-Certain-clause-small : goal.returns-in-Certain-clause-small
returns-in-Certain-clause-small c =
    let a = c.args in
    look-fits a.d a.n a.t.now a.q (omega arith) (sym c.in-Certain.ensures)
