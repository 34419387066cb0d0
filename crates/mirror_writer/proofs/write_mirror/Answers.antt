-- The head, and behind it the mirror's body.
use native.Mathlib.Nat.{add-sub_cancel_left}
use Rattle.tableau.specs.Tableau.{put}
use Rattle.mirror_writer.proofs.Written.{mirror-laid, mirror-size}
use Rattle.mirror_writer.proofs.write_mirror.Goals as goal

pub returns : goal.returns
unfolding put
returns c =
    let a = c.args in
    simp (c.mirror_body.ensures, add-sub_cancel_left, c.lay.ensures, c.head_of-head.ensures)
    (mirror-laid a.d a.n _ _ a.out.now (mirror-size a.d a.n a.ops.now c.requires.entries.whole))
