-- `is_tabled` meets its contract.
-- Assumes nothing.
use native.Mathlib.Omega.{arith}
use borrow.Author.Rules.{rules}
use mathlib.Core.Path.{◌≡◌, refl, sym, ap, ap₂, ◌∙◌}
use Prim.Native.Nat.{ℕ, ◌-◌, ◌+◌, ◌*◌, ◌≤◌, ◌<◌}
use mathlib.Core.Bool.{Bool, true, false, cond}
use mathlib.Core.List.{List}
use Rattle.tray.specs.Tray.{shots_in, start_of, good_length, table_fits}
use Rattle.tray.proofs.Table.{table_unfit, table-inside}
use Rattle.search.specs.Search.{all}
use native.Mathlib.Numerals.{add-one}
use native.Mathlib.Nat.{le_antisymm}
use borrow.Author.Tests.{le-leb}
use lib.Dec.{eqb}
use lib.ListN.{length}
use Rattle.search.proofs.Search.{all_more}
use Rattle.tray.proofs.table_fits.Statement.{statement}
use Rattle.tray.proofs.table_fits.Tie as tie

clash : {b : Bool} → b ≡ false → b ≡ true → ⊥
clash e t = let z : ◌≡◌ {A = ℕ} 1 0 = ap (λ (x : Bool). cond x 1 0) (sym t ∙ e) in absurd (omega arith)

last : (s : List ℕ) (shots i start : ℕ) → shots_in s ≡ shots → i ≡ shots → shots ≤ 4096 → all (good_length s) i ≡ true → start ≡ start_of s i
    → eqb start (length s) ≡ table_fits s
unfolding table_fits
last s shots i start w q few good e = rw (w, ← q, e, le-leb i 4096 (omega (arith, q, few)), good)

abbrev invariant-loop : tie.invariant-loop-i
invariant-loop tray shots table start₀ i₀ start i = (i ≤ shots) × (start ≡ start_of tray i) × (start ≤ 8194 + 65535 * i) × (all (good_length tray) i ≡ true)

abbrev decreases-loop : tie.decreases-loop-i
decreases-loop tray shots table start₀ i₀ start i = shots - i

returns : tie.Need-returns-then-tray-lt2 invariant-loop decreases-loop
returns c =
    let s = c.args.tray.now in
    table_unfit s (λ h. absurd (omega (arith, table-inside s h, c.if-tray-lt2.true)))

word-requires : tie.Need-word-shots-requires invariant-loop decreases-loop
word-requires c κs = search rules

returns-2 : tie.Need-returns-then-shots-gt4096 invariant-loop decreases-loop
returns-2 c =
    let s = c.args.tray.now in
    table_unfit s (λ h. absurd (omega (arith, h.few, c.word-shots.ensures.0, c.if-shots-gt4096.true)))

mul-table : tie.Need-overflow_mul-table invariant-loop decreases-loop
mul-table c = search rules

add-table : tie.Need-overflow_add-table invariant-loop decreases-loop
add-table c = search rules

returns-3 : tie.Need-returns-then-tray-table invariant-loop decreases-loop
returns-3 c =
    let s = c.args.tray.now in
    table_unfit s (λ h. absurd (omega (arith, table-inside s h, c.word-shots.ensures.0, c.if-tray-table.true)))

loop-holds : tie.Need-loop-i-init invariant-loop decreases-loop
unfolding start_of all
loop-holds c =
    let e = c.word-shots.ensures.0 in (
      omega arith,
      ap (λ (x : ℕ). 2 + 2 * x) e,
      omega arith,
      refl,
    )

mul-word : tie.Need-overflow_mul-i invariant-loop decreases-loop
mul-word c = search rules

add-word : tie.Need-overflow_add-i invariant-loop decreases-loop
add-word c = search rules

word-requires-2 : tie.Need-word-length-requires invariant-loop decreases-loop
word-requires-2 c κs = search rules

length-fits-requires : tie.Need-length_fits-requires invariant-loop decreases-loop
length-fits-requires c κs = search rules

returns-4 : tie.Need-returns-then-not-length_fits invariant-loop decreases-loop
returns-4 c =
    let s = c.args.tray.now in
    let w = c.word-shots.ensures.0 in
    let l : c.loop-i.i < shots_in s = omega (arith, w, c.loop-i-test.true) in
    let e : good_length s c.loop-i.i ≡ false = rw (← c.word-length.ensures.0) (sym c.length_fits.ensures ∙ c.if-not-length_fits.true) in
    table_unfit s (λ h. let t = h.lengths c.loop-i.i l in absurd (clash e t))

add_start : tie.Need-overflow_add-start invariant-loop decreases-loop
add_start c = search rules

add-i : tie.Need-overflow_add-i-in-loop-i invariant-loop decreases-loop
add-i c = search rules

loop-less : tie.Need-loop-i-smaller invariant-loop decreases-loop
loop-less c = omega arith

loop-again : tie.Need-loop-i-preserved invariant-loop decreases-loop
unfolding start_of
loop-again c =
    let e = c.word-length.ensures in
    let a = c.loop-i.invariant in (
      omega arith,
      rw (add-one c.loop-i.i) (ap₂ ◌+◌ a.1 e.0),
      omega (arith, e.1),
      all_more _ _ a.3 (rw (← e.0) (sym c.length_fits.ensures ∙ c.if-not-length_fits.false)),
    )

returns-5 : tie.Need-returns invariant-loop decreases-loop
returns-5 c =
    let s = c.args.tray.now in
    let w = c.word-shots.ensures.0 in
    let a = c.loop-i.invariant in
    let q = le_antisymm a.0 c.loop-i-test.false in
    last s _ _ _ (sym w) q c.if-shots-gt4096.false a.3 a.1

pub table_fits_spec : {M : Type 1} → statement M
table_fits_spec =
    tie.close
    (tie.spec
    invariant-loop
    decreases-loop
    returns
    word-requires
    returns-2
    mul-table
    add-table
    returns-3
    loop-holds
    mul-word
    add-word
    word-requires-2
    length-fits-requires
    returns-4
    add_start
    add-i
    loop-less
    loop-again
    returns-5)
