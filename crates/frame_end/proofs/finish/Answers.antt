-- The written stabilizer shifts are all 0 exactly if the verdict is clean.
use Rattle.std.proofs.Common.{◌≡◌, ℕ, ◌+◌, ◌*◌, ◌++◌, List, drop, eqb, ap, ◌∙◌, arith}
use lib.ListN.{get_or-append}
use Rattle.row.specs.Row.{tab}
use Rattle.row.proofs.Fill.{tab-length, tab-get}
use Rattle.search.specs.Search.{all}
use Rattle.search.proofs.Search.{all_same}
use Rattle.runs.specs.Frame.{shift_at, no_shift, verdict_of}
use Rattle.frame_end.specs.Verdict.{is_zero}
use Rattle.frame_end.proofs.finish.Goals as goal

written : (d n : ℕ) (F t rest : List ℕ) → all (is_zero n (tab (shift_at d n F t) (2 * n) ++ rest)) n ≡ all (no_shift d n F t) n
written d n F t rest =
    let f = shift_at d n F t in
    all_same _ _ n
    (λ i l.
    ap (λ (x : ℕ). eqb x 0)
    (get_or-append (tab f (2 * n)) rest 0 (n + i) (omega (arith, tab-length f (2 * n))) ∙ tab-get f (2 * n) (n + i) 0 (omega arith)))

pub returns : goal.returns
unfolding verdict_of
returns c =
    let a = c.args in
    let e = rw c.new.ensures at c.shift_rows.ensures in
    (e.added, e.written, rw c.copy_from_slice.ensures.after, c.verdict.ensures ∙ rw (e.written, written a.d a.n a.frame.now a.t.now (drop (2 * a.n) a.shifts.now)))
