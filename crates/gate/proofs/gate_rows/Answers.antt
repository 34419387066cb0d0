-- Measurement, reset and correction are no gates.
use Rattle.std.proofs.Common.{sym, inl, inr}
use Rattle.gate.proofs.Rows.{measure_none, reset-none, correct_none}
use Rattle.gate.proofs.gate_rows.Goals as goal

pub returns-in-Measure : goal.returns-in-Measure
returns-in-Measure c =
    let p = c.requires in
    elim c.in-Measure.is [
      | inl (q, e) ↦ rw e (sym (measure_none _ _ _ p.rows q (rw e at p.allowed)))
      | inr (inl (q, e)) ↦ rw e (sym (reset-none _ _ _ p.rows q (rw e at p.allowed)))
      | inr (inr (q, m, e)) ↦ rw e (sym (correct_none _ _ _ p.rows q m (rw e at p.allowed)))
    ]
