use Rattle.std.proofs.Common.{◌≡◌, ℕ, ◌+◌, ◌-◌, ◌*◌, ◌∙◌, List, sym, ap, arith}
use native.Mathlib.Nat.{add-sub_cancel_left}
use native.Mathlib.Numerals.{add-one}
use Rattle.tableau.specs.Tableau.{part, put}
use Rattle.tableau.proofs.Parts.{row_in}
use Rattle.expand.specs.Expand.{noisy_among}
use Rattle.expand.proofs.Noisy.{noisy_none, noisy_one}
use Rattle.expand.proofs.Places.{row-clean, row_noisy}
use Rattle.expand.proofs.row_at.Goals as goal
use Rattle.expand.proofs.row_at.Goals.{Then-word-eq0, Else-word-eq0}

-- the shot has no error: as many before it have some
none : (c : Then-word-eq0) → c.args.noisy ≡ noisy_among c.args.tray.now c.args.first c.args.i
none c =
    c.requires.noisy_count ∙ rw (add-one c.args.i) (noisy_none c.args.tray.now c.args.first c.args.i (sym c.word.ensures.0 ∙ c.if-word-eq0.true))

-- it has some
one : (c : Else-word-eq0) → c.args.noisy ≡ noisy_among c.args.tray.now c.args.first c.args.i + 1
one c =
    c.requires.noisy_count ∙ rw (add-one c.args.i) (noisy_one c.args.tray.now c.args.first c.args.i (λ z. c.if-word-eq0.false (c.word.ensures.0 ∙ z)))

pub returns-then-word-eq0-clause-noisy_before : goal.returns-then-word-eq0-clause-noisy_before
returns-then-word-eq0-clause-noisy_before c = none (goal.at.returns-then-word-eq0-clause-noisy_before c).Then-word-eq0

pub returns-then-word-eq0-clause-row : goal.returns-then-word-eq0-clause-row
unfolding put
returns-then-word-eq0-clause-row c =
    let a = c.args in
    let row = c.clean_row.ensures ∙ sym (row-clean a.tray.now a.first a.clean.now a.w a.out.now a.i (sym c.word.ensures.0 ∙ c.if-word-eq0.true)) in
    simp add-sub_cancel_left (ap (λ (ys : List ℕ). put (a.i * a.w) a.w ys a.out.now) row)

pub overflow_sub-before : goal.overflow_sub-before
overflow_sub-before c = omega (arith, one c)

pub returns-clause-noisy_before : goal.returns-clause-noisy_before
returns-clause-noisy_before c = omega (arith, one (goal.at.returns-clause-noisy_before c).Else-word-eq0)

pub move_row-requires-clause-before : goal.move_row-requires-clause-before
move_row-requires-clause-before c =
    row_in (c.args.noisy - 1) c.args.i c.args.w (omega (arith, one (goal.at.move_row-requires-clause-before c).Else-word-eq0))

pub move_row-requires-clause-room : goal.move_row-requires-clause-room
move_row-requires-clause-room c = omega (arith, c.requires.rows.room)

pub returns-clause-row : goal.returns-clause-row
returns-clause-row c =
    let a = c.args in
    let more = one (goal.at.returns-clause-row c).Else-word-eq0 in
    let before : a.noisy - 1 ≡ noisy_among a.tray.now a.first a.i = omega (arith, more) in
    c.move_row.ensures
    ∙ ap (λ (ys : List ℕ). put (a.i * a.w) a.w ys a.out.now)
    (ap (λ (y : ℕ). part (y * a.w) a.w a.out.now) before ∙ sym (row_noisy a.tray.now a.first a.clean.now a.w a.out.now a.i (λ z. c.if-word-eq0.false (c.word.ensures.0 ∙ z))))
