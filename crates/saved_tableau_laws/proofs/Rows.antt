-- The rows behind the two bytes, as a part of the buffer.
-- Assumes nothing.
use mathlib.Core.Path.{◌≡◌, refl, ap, ◌∙◌}
use mathlib.Core.List.{List, [], ◌∷◌, ◌++◌, append-nil}
use Prim.Native.Nat.{ℕ, zero, suc, ◌+◌, ◌-◌, ◌<◌, ◌≤◌}
use native.Mathlib.Omega.{arith}
use lib.ListN.{length, get_or, take, drop, set, length-drop, drop_of_length-le}
use lib.Seq.{take_all}
use borrow.Rule.Slice.PartMut.{put_mid}
use Rattle.saved_tableau.specs.Saved.{dimension_in, qudits_in, rows_in, with_rows}

pub rows-part : (t : List ℕ) → take (length t - 2) (drop 2 t) ≡ rows_in t
rows-part t = take_all (length t - 2) (drop 2 t) (omega (arith, length-drop 2 t))

pub rows-put : (t ys : List ℕ) → put_mid 2 (length t - 2) t ys ≡ with_rows t ys
rows-put t ys =
    ap (λ (r : List ℕ). take 2 t ++ (ys ++ r)) (drop_of_length-le (drop 2 t) {i = length t - 2} (omega (arith, length-drop 2 t)))
    ∙ ap (λ (r : List ℕ). take 2 t ++ r) (append-nil ys)

-- d and n written over the first two bytes
pub named : (t rows : List ℕ) (d n : ℕ) → 2 ≤ length t → set (set (with_rows t rows) 0 d) 1 n ≡ d ∷ n ∷ rows
named [] rows d n h = absurd (omega arith)
named (x ∷ []) rows d n h = absurd (omega arith)
named (x ∷ y ∷ t) rows d n h = refl

-- a tableau with other rows: its two bytes, then these rows
pub opened : (t rows : List ℕ) → 2 ≤ length t → with_rows t rows ≡ dimension_in t ∷ qudits_in t ∷ rows
opened [] rows h = absurd (omega arith)
opened (x ∷ []) rows h = absurd (omega arith)
opened (x ∷ y ∷ t) rows h = refl

pub same_bytes : (t rows : List ℕ) → 2 ≤ length t → take 2 (with_rows t rows) ≡ take 2 t
same_bytes [] rows h = absurd (omega arith)
same_bytes (x ∷ []) rows h = absurd (omega arith)
same_bytes (x ∷ y ∷ t) rows h = refl

pub rows_back : (t rows : List ℕ) → 2 ≤ length t → rows_in (with_rows t rows) ≡ rows
rows_back t rows h = ap rows_in (opened t rows h)

-- two tableaus are alike in their first m + 2 bytes where the two bytes are, and the first m of the rows
pub bytes-alike : (t u rows rows' : List ℕ) → 2 ≤ length t → 2 ≤ length u → (m : ℕ)
    → dimension_in t ≡ dimension_in u
    → qudits_in t ≡ qudits_in u
    → ((i : ℕ) → i < m → get_or rows i 0 ≡ get_or rows' i 0)
    → (i : ℕ) → i < m + 2 → get_or (with_rows t rows) i 0 ≡ get_or (with_rows u rows') i 0
bytes-alike t u rows rows' h k m d n same = rw (opened t rows h, opened u rows' k) by
  where
    by : (i : ℕ) → i < m + 2 → get_or (dimension_in t ∷ qudits_in t ∷ rows) i 0 ≡ get_or (dimension_in u ∷ qudits_in u ∷ rows') i 0
    by zero l = d
    by (suc zero) l = n
    by (suc (suc i)) l = same i (omega arith)
