-- A stabilizer's shift is not 0 exactly where not all of them are.
use Rattle.std.proofs.Common.{◌≡◌, ℕ, zero, suc, ◌+◌, ◌-◌, ◌*◌, ◌≤◌, Bool, true, false, not, ◌&&◌, ◌||◌, cond, List, length, take, drop, refl, ap, ap₂, ◌∙◌, add-one, arith, get_or-drop, length-drop}
use mir.Val.{bool_byte}
use Rattle.std.specs.List.{list_any}
use Rattle.std.proofs.lemmas.List.Folds.{list_any_more}
use Rattle.search.specs.Search.{all}
use Rattle.frame_end.specs.Verdict.{is_zero, is_shift}
use Rattle.frame_end.proofs.verdict.Goals as goal

not-and : (a b : Bool) → not a || not b ≡ not (a && b)
not-and true b = refl
not-and false b = refl

judged : (n m : ℕ) (shifts : List ℕ) → n + m ≤ length shifts → list_any is_shift (take m (drop n shifts)) ≡ not (all (is_zero n shifts) m)
unfolding all
judged n zero shifts l = refl
judged n (suc m) shifts l =
    rw (← add-one m)
    (list_any_more is_shift (drop n shifts) m 0 (omega (arith, length-drop n shifts))
    ∙ ap₂ ◌||◌ (judged n m shifts (omega arith)) (ap is_shift (get_or-drop n shifts m 0))
    ∙ not-and (all (is_zero n shifts) m) (is_zero n shifts m))

as_number : (b : Bool) → bool_byte (not b) ≡ cond b 0 1
as_number true = refl
as_number false = refl

pub returns : goal.returns
returns c =
    let n = c.args.n in
    let shifts = c.args.shifts.now in
    let part : 2 * n - n ≡ n = omega arith in
    c.from.ensures ∙ ap bool_byte (c.any_shift.ensures ∙ rw part (judged n n shifts (omega arith))) ∙ as_number (all (is_zero n shifts) n)
