use Rattle.std.proofs.Common.{◌≡◌, ◌-◌, rules, of_calls}
use Rattle.correction.specs.Correction.{held_in, written_in}
use Rattle.correction.proofs.Correcting.{when_written, when_held, corrected-by}
use Rattle.correction.proofs.Reports.correct.Goals as goal

pub correct_by-requires-clause-below : goal.correct_by-requires-clause-below
correct_by-requires-clause-below c = λ l x h e.
    let s = c.args.self.now in
    let is : x ≡ written_in s.w s.out.now c.args.i l = search (rules, of_calls) in
    rw (is, ← when_written s.w s.base s.tile.now s.out.now c.args.i l c.if-i-reports.true) (c.requires.below l h)

pub correct_by-requires-else-i-reports-clause-below : goal.correct_by-requires-else-i-reports-clause-below
correct_by-requires-else-i-reports-clause-below c = λ l x h e.
    let s = c.args.self.now in
    let is : x ≡ held_in s.tile.now (c.args.i - s.base) l = search (rules, of_calls) in
    rw (is, ← when_held s.w s.base s.tile.now s.out.now c.args.i l c.if-i-reports.false) (c.requires.below l h)

pub returns-then-i-reports-clause-corrected : goal.returns-then-i-reports-clause-corrected
returns-then-i-reports-clause-corrected c = corrected-by (λ l x h e.
    let s = c.args.self.now in
    let is : x ≡ written_in s.w s.out.now c.args.i l = search (rules, of_calls) in
    rw (is, when_written s.w s.base s.tile.now s.out.now c.args.i l c.if-i-reports.true)) c.correct_by.ensures.corrected

pub returns-else-i-reports-clause-corrected : goal.returns-else-i-reports-clause-corrected
returns-else-i-reports-clause-corrected c = corrected-by (λ l x h e.
    let s = c.args.self.now in
    let is : x ≡ held_in s.tile.now (c.args.i - s.base) l = search (rules, of_calls) in
    rw (is, when_held s.w s.base s.tile.now s.out.now c.args.i l c.if-i-reports.false)) c.correct_by-else-i-reports.ensures.corrected
