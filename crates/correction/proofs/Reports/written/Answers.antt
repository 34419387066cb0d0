use Rattle.std.proofs.Common.{◌≡◌, ◌+◌, ◌*◌, sym, arith}
use Rattle.tableau.proofs.Parts.{part_at}
use Rattle.correction.proofs.Reports.written.Goals as goal

pub returns : goal.returns
returns c =
    let s = c.args.self.now in
    let i = c.args.i in
    let l = c.args.l in
    let at : l * s.w + 1 + 2 * i ≡ l * s.w + (1 + 2 * i) = omega arith in
    rw at (sym (part_at (l * s.w) s.w s.out.now (1 + 2 * i) c.requires.wide))
