use Rattle.tile.specs.Tile.{RowCall}
use Rattle.tile.proofs.Rows.{Changing}
use Rattle.tile.proofs.change_rows.Given as goal

abbrev pub invariant-loop-l : goal.invariant-loop-l
invariant-loop-l g l = Changing (λ i. RowCall (λ given left. goal.F-post g l.f given i tt left)) l.w l.used l.l l.initial.out l.out
