-- The number of shots and their bodies leave one tray alone.
-- Assumes nothing.
use mathlib.Core.Path.{◌≡◌, sym, ap, ap₂, ◌∙◌}
use mathlib.Core.List.{List}
use Prim.Native.Nat.{ℕ, zero, suc, ◌+◌, ◌-◌, ◌*◌, ◌/◌, ◌%◌, ◌<◌, ◌≤◌}
use native.Mathlib.Nat.{le_refl, div-add-mod, mod-lt}
use native.Mathlib.Decide.{ℕ_discrete, dec_lt}
use native.Mathlib.Omega.{arith}
use lib.ListN.{length, get_or}
use lib.Seq.{ext_get_or}
use Rattle.tableau.proofs.Parts.{part_length, part_at}
use Rattle.book_entries.specs.Entry.{word}
use Rattle.written_book.specs.Written.{Bytes}
use Rattle.tray.specs.Tray.{shots_in, length_at, start_of, shot_body, OnlyTray}
use Rattle.tray.proofs.Table.{TableFits, table_says, body-inside, table-inside}

body-length : (s : List ℕ) → TableFits s → (i : ℕ) → i < shots_in s → length (shot_body s i) ≡ length_at s i
body-length s h i l = part_length (start_of s i) (length_at s i) s (body-inside s h i l)

-- the two bytes of a word
low_byte : (a b x y : ℕ) → a < 256 → x < 256 → a + 256 * b ≡ x + 256 * y → a ≡ x
low_byte a b x y l k e = omega arith

high_byte : (a b x y : ℕ) → a < 256 → x < 256 → a + 256 * b ≡ x + 256 * y → b ≡ y
high_byte a b x y l k e = omega arith

module _ (s u : List ℕ) (bytes : Bytes s) (bytes' : Bytes u) (h : TableFits s) (h' : TableFits u) (count : shots_in s ≡ shots_in u)
    (bodies : (i : ℕ) → i < shots_in s → shot_body s i ≡ shot_body u i) where
  same_length : (i : ℕ) → i < shots_in s → length_at s i ≡ length_at u i
  same_length i l = sym (body-length s h i l) ∙ ap length (bodies i l) ∙ body-length u h' i (omega arith)

  same_start : (i : ℕ) → i ≤ shots_in s → start_of s i ≡ start_of u i
  unfolding start_of
  same_start zero l = ap (λ (x : ℕ). 2 + 2 * x) count
  same_start (suc i) l = ap₂ ◌+◌ (same_start i (omega arith)) (same_length i l)

  -- the table, word by word
  same_word : (k : ℕ) → k ≤ shots_in s → word s (2 * k) ≡ word u (2 * k)
  same_word zero l = let q : 2 * 0 ≡ 0 = omega arith in rw q count
  same_word (suc i) l = let q : 2 * suc i ≡ 2 + 2 * i = omega arith in rw q (same_length i l)

  in_table : (j : ℕ) → j < 2 + 2 * shots_in s → get_or s j 0 ≡ get_or u j 0
  in_table j l = by (j / 2) (j % 2) (div-add-mod j 2) (mod-lt j (omega arith))
    where
      by : (k r : ℕ) → 2 * k + r ≡ j → r < 2 → get_or s j 0 ≡ get_or u j 0
      by k r q b =
          at (bytes.below (2 * k) (omega (arith, table-inside s h))) (bytes'.below (2 * k) (omega (arith, table-inside u h')))
          (same_word k (omega arith)) (ℕ_discrete r 0)
        where
          at : get_or s (2 * k) 0 < 256 → get_or u (2 * k) 0 < 256 → word s (2 * k) ≡ word u (2 * k) → Dec (r ≡ 0) → get_or s j 0 ≡ get_or u j 0
          at a a' same (yes e) = let p : j ≡ 2 * k = omega arith in rw p (low_byte _ _ _ _ a a' same)
          at a a' same (no e) = let p : j ≡ 2 * k + 1 = omega arith in rw p (high_byte _ _ _ _ a a' same)

  -- the bodies, one after the other
  before : (k : ℕ) → k ≤ shots_in s → (j : ℕ) → j < start_of s k → get_or s j 0 ≡ get_or u j 0
  unfolding start_of
  before zero l j b = in_table j b
  before (suc k) l j b = by (dec_lt j (start_of s k)) (before k (omega arith) j)
    where
      by : Dec (j < start_of s k) → (j < start_of s k → get_or s j 0 ≡ get_or u j 0) → get_or s j 0 ≡ get_or u j 0
      by (yes c) earlier = earlier c
      by (no c) earlier =
          let r = j - start_of s k in
          let here : start_of s k + r ≡ j = omega arith in
          let there : start_of u k + r ≡ j = omega (arith, same_start k (omega arith)) in
          let a : r < length_at s k = omega arith in
          let a' : r < length_at u k = omega (arith, same_length k l) in
          ap (λ (x : ℕ). get_or s x 0) (sym here) ∙ sym (part_at (start_of s k) (length_at s k) s r a)
          ∙ ap (λ (v : List ℕ). get_or v r 0) (bodies k l)
          ∙ part_at (start_of u k) (length_at u k) u r a' ∙ ap (λ (x : ℕ). get_or u x 0) there

  only : s ≡ u
  only =
      ext_get_or 0 s u (sym h.ends ∙ same_start (shots_in s) (le_refl (shots_in s)) ∙ ap (start_of u) count ∙ h'.ends)
      (λ j l. before (shots_in s) (le_refl (shots_in s)) j (omega (arith, h.ends)))

pub only-tray : OnlyTray
only-tray s u bytes bytes' e e' count bodies = only s u bytes bytes' (table_says s e) (table_says u e') count bodies
