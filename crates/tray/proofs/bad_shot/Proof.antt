-- `bad_shot` meets its contract.
-- Assumes nothing.
use Rattle.std.proofs.Common.{Option, Some, None}
use native.Mathlib.Omega.{arith}
use borrow.Author.Rules.{rules}
use mathlib.Core.Path.{◌≡◌, refl, sym, ap, ap₂, ◌∙◌}
use Prim.Native.Nat.{ℕ, ◌-◌, ◌+◌, ◌*◌, ◌≤◌, ◌<◌}
use Rattle.tray.specs.Tray.{shots_in, length_at, start_of, good_shot, bad_shot}
use Rattle.tray.proofs.Table.{table_says, body-inside, table-inside}
use Rattle.search.specs.Search.{first_not}
use Rattle.search.proofs.Search.{none_yet, found}
use mathlib.Core.Bool.{true, false}
use mathlib.Core.List.{List}
use native.Mathlib.Numerals.{add-one}
use native.Mathlib.Nat.{le_antisymm, add-sub_cancel_left}
use Rattle.tableau.specs.Tableau.{part}
use Rattle.book_body.specs.Body.{bad_error}
use Rattle.tray.proofs.bad_shot.Statement.{statement}
use Rattle.tray.proofs.bad_shot.Tie as tie

fails : (s : List ℕ) (d n count start size i : ℕ) {r : Option ℕ} {k : ℕ} → start ≡ start_of s i → size ≡ length_at s i
    → r ≡ bad_error d n count (part start size s) → r ≡ Some k → good_shot d n count s i ≡ false
fails s d n count start size i a b e f = rw (← a, ← b, ← e, f)

passes : (s : List ℕ) (d n count start size i : ℕ) {r : Option ℕ} → start ≡ start_of s i → size ≡ length_at s i
    → r ≡ bad_error d n count (part start size s) → r ≡ None → good_shot d n count s i ≡ true
passes s d n count start size i a b e f = rw (← a, ← b, ← e, f)

abbrev invariant-loop : tie.invariant-loop-i
invariant-loop tray count d n shots start₀ i₀ start i = (i ≤ shots) × (start ≡ start_of tray i) × (first_not (good_shot d n count tray) i ≡ None)

abbrev decreases-loop : tie.decreases-loop-i
decreases-loop tray count d n shots start₀ i₀ start i = shots - i

word-requires : tie.Need-word-shots-requires invariant-loop decreases-loop
word-requires c κs = let s = c.args.tray.now in omega (arith, table-inside s (table_says s c.requires))

mul-start : tie.Need-overflow_mul-start invariant-loop decreases-loop
mul-start c = search rules

add_start : tie.Need-overflow_add-start invariant-loop decreases-loop
add_start c = search rules

loop-holds : tie.Need-loop-i-init invariant-loop decreases-loop
unfolding start_of first_not
loop-holds c = (omega arith, ap (λ (x : ℕ). 2 + 2 * x) c.word-shots.ensures.0, refl)

mul-word : tie.Need-overflow_mul-i invariant-loop decreases-loop
mul-word c = search rules

add-word : tie.Need-overflow_add-i invariant-loop decreases-loop
add-word c = search rules

word-requires-2 : tie.Need-word-requires invariant-loop decreases-loop
word-requires-2 c κs = let s = c.args.tray.now in omega (arith, table-inside s (table_says s c.requires), c.word-shots.ensures.0, c.loop-i-test.true)

add-end : tie.Need-overflow_add-end invariant-loop decreases-loop
add-end c =
    let o = c in
    let s = o.args.tray.now in
    let w = c.word-shots.ensures.0 in
    let l : c.loop-i.i < shots_in s = omega (arith, w, c.loop-i-test.true) in
    omega (arith, body-inside s (table_says s o.requires) _ l, c.loop-i.invariant.1, c.word.ensures.0)

sub-bad-error : tie.Need-slice_bounds-bad_error-count invariant-loop decreases-loop
sub-bad-error c = search rules

part-bad-error-start : tie.Need-slice_bounds-bad_error-start invariant-loop decreases-loop
part-bad-error-start c = search rules

part-bad-error-end : tie.Need-slice_bounds-bad_error-end invariant-loop decreases-loop
part-bad-error-end c =
    let o = c in
    let s = o.args.tray.now in
    let w = c.word-shots.ensures.0 in
    let l : c.loop-i.i < shots_in s = omega (arith, w, c.loop-i-test.true) in
    omega (arith, body-inside s (table_says s o.requires) _ l, c.loop-i.invariant.1, c.word.ensures.0)

bad-error-requires : tie.Need-bad_error-requires invariant-loop decreases-loop
bad-error-requires c κs = search rules

enum_told : tie.Need-enum_told-1 invariant-loop decreases-loop
enum_told c = search rules

returns : tie.Need-returns-in-Some invariant-loop decreases-loop
unfolding bad_shot part
returns c =
    let o = c in
    let s = o.args.tray.now in
    let w = c.word-shots.ensures.0 in
    let l : c.loop-i.i < shots_in s = omega (arith, w, c.loop-i-test.true) in
    found _ _ _ l c.loop-i.invariant.2
    (fails s o.args.d o.args.n o.args.count _ _ _ c.loop-i.invariant.1 c.word.ensures.0
    (simp add-sub_cancel_left at c.bad_error.ensures) c.in-Some.is)

enum-told-2 : tie.Need-enum_told-in_default invariant-loop decreases-loop
enum-told-2 c = search rules

add-i : tie.Need-overflow_add-i-in-loop-i invariant-loop decreases-loop
add-i c = search rules

loop-less : tie.Need-loop-i-smaller invariant-loop decreases-loop
loop-less c = omega arith

loop-again : tie.Need-loop-i-preserved invariant-loop decreases-loop
unfolding start_of part
loop-again c =
    let o = c in
    let s = o.args.tray.now in
    let w = c.word-shots.ensures.0 in
    let l : c.loop-i.i < shots_in s = omega (arith, w, c.loop-i-test.true) in (
      omega arith,
      rw (add-one c.loop-i.i) (ap₂ ◌+◌ c.loop-i.invariant.1 c.word.ensures.0),
      none_yet _ _ c.loop-i.invariant.2
          (passes s o.args.d o.args.n o.args.count _ _ _ c.loop-i.invariant.1 c.word.ensures.0
          (simp add-sub_cancel_left at c.bad_error.ensures) c.in_default.is),
    )

returns-2 : tie.Need-returns invariant-loop decreases-loop
unfolding bad_shot
returns-2 c = rw (ap (first_not _) (sym c.word-shots.ensures.0 ∙ sym (le_antisymm c.loop-i.invariant.0 c.loop-i-test.false))) (sym c.loop-i.invariant.2)

pub bad_shot_spec : {M : Type 1} → statement M
bad_shot_spec =
    tie.close
    (tie.spec
    invariant-loop
    decreases-loop
    word-requires
    mul-start
    add_start
    loop-holds
    mul-word
    add-word
    word-requires-2
    add-end
    sub-bad-error
    part-bad-error-start
    part-bad-error-end
    bad-error-requires
    enum_told
    returns
    enum-told-2
    add-i
    loop-less
    loop-again
    returns-2)
