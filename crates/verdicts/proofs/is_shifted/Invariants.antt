use Rattle.std.proofs.Common.{◌≡◌, true}
use Rattle.search.specs.Search.{all}
use Rattle.runs.specs.Frame.{no_shift}
use Rattle.verdicts.proofs.is_shifted.Given as goal

abbrev pub invariant-loop-i : goal.invariant-loop-i
invariant-loop-i l = all (no_shift l.m.d l.n l.frame l.t) l.i ≡ true
