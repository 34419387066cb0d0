-- Every power of every lane is 0.
use Rattle.std.proofs.Common.{◌+◌, ◌*◌, ◌∙◌, replicate, arith}
use Rattle.std.proofs.lemmas.List.{get_or-replicate}
use Rattle.frame_powers.specs.Lane.{frame_in}
use Rattle.frame_powers.proofs.Lane.{frame_in-length, frame_in-at}
use Rattle.lanes.specs.Lanes.{lane}
use Rattle.lane_gate.proofs.tests.no_frames.Goals as goal

pub returns : goal.returns
unfolding lane frame_in
returns c =
    record {
      dimension = omega arith;
      qudits = omega arith;
      room = omega arith;
      powers = λ l h. record {
        room = omega (arith, frame_in-length 256 4 (replicate 1024 0) l);
        below = λ s b. omega (arith, frame_in-at 256 4 (replicate 1024 0) l s b ∙ get_or-replicate 1024 (256 * s + l) 0 0 (omega arith));
      };
    }
