use Rattle.lanes.specs.Lanes.{Lanes}
use Rattle.correction.proofs.Correcting.{Correcting}
use Rattle.correction.proofs.correct_by.Given as goal

abbrev pub invariant-loop-l : goal.invariant-loop-l
invariant-loop-l g l = record {
  corrected : Correcting l.m.d l.n l.q l.r (λ l' x. goal.F-post g l.reported l' x) l.l l.fn.v l.v;
  lanes : Lanes l.m.d l.n l.v;
}
