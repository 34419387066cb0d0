-- A refusal's number is not that of success.
-- Assumes nothing.
use Rattle.std.proofs.Common.{◌≢◌, arith}
use Rattle.answer.specs.declared.Refusal.{Refusal}
use Rattle.answer.specs.declared.Refusal.TheVariants.{
  Header,
  Dimension,
  Qudits,
  Contents,
  Operation,
  Error,
  Shot,
  Choice,
  Length,
  Rows,
  Table,
  Measurement,
  Number,
}
use Rattle.answer.specs.Refusal.{number_of}

pub refuses : (r : Refusal) → number_of r ≢ 0
refuses Header e = omega arith
refuses Dimension e = omega arith
refuses Qudits e = omega arith
refuses (Contents entry) e = omega arith
refuses (Operation index) e = omega arith
refuses (Error index) e = omega arith
refuses (Shot shot) e = omega arith
refuses (Choice index) e = omega arith
refuses Length e = omega arith
refuses Rows e = omega arith
refuses Table e = omega arith
refuses (Measurement index) e = omega arith
refuses Number e = omega arith
