use Rattle.std.proofs.Common.{◌≡◌, ◌≤◌}
use Rattle.verdicts.specs.Verdicts.{shifted_lanes, VerdictsWritten, verdict_in}
use Rattle.verdicts.proofs.write_verdicts.Given as goal

abbrev pub invariant-loop-l : goal.invariant-loop-l
invariant-loop-l l = record {
  shifted : l.shifted ≡ shifted_lanes l.m.d l.n l.v l.t l.l;
  few : l.shifted ≤ l.l;
  written : VerdictsWritten l.w l.used l.l (verdict_in l.m.d l.n l.v l.t) l.initial.out l.out;
}
