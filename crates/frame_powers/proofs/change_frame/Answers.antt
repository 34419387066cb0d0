use Rattle.std.proofs.Common.{arith}
use Rattle.frame_powers.proofs.Lane.{alone-frame, alone-changed}
use Rattle.frame_powers.proofs.change_frame.Goals as goal

pub change-requires-clause-frame : goal.change-requires-clause-frame
change-requires-clause-frame g c = alone-frame c.requires.frame

pub returns-clause-changed : goal.returns-clause-changed
returns-clause-changed g c = alone-changed c.requires.frame.room c.change.ensures

pub returns-clause-frame : goal.returns-clause-frame
returns-clause-frame g c =
    rw (alone-changed c.requires.frame.room c.change.ensures)
    (g.met.C.FrameChange.keeps _ _ _ (omega arith) c.requires.operands _ c.requires.frame)
