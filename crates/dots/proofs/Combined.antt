-- Sums of products of factors with columns: they are small, eight more are two times four, and a wide copy of the factors serves.
-- Assumes nothing.
use mathlib.Core.Path.{◌≡◌, refl, sym, ap, ◌∙◌}
use mathlib.Core.List.{List, [], ◌∷◌}
use Prim.Native.Nat.{ℕ, zero, suc, ◌+◌, ◌-◌, ◌*◌, ◌<◌, ◌≤◌}
use native.Mathlib.Decide.{dec_lt}
use native.Mathlib.Nat.{mul-le-mul}
use native.Mathlib.Omega.{arith}
use lib.ListN.{length, get_or, take, drop, replicate, length-take, length-replicate, get_or-replicate, get_or-eq_default}
use lib.Seq.{get_or-take, get_or-drop}
use Rattle.row.specs.Row.{x_of}
use Rattle.row.specs.Fill.{filled}
use Rattle.row.proofs.Fill.{filled-get, filled-rest}
use Rattle.dots.specs.Dots.{Small, SmallColumns, number, combined, ColumnSums}

pub zero-at : (m k : ℕ) → get_or {A = ℕ} (replicate m 0) k 0 ≡ 0
zero-at m k = by (dec_lt k m)
  where
    by : Dec (k < m) → get_or {A = ℕ} (replicate m 0) k 0 ≡ 0
    by (yes l) = get_or-replicate m k 0 0 l
    by (no l) = get_or-eq_default (replicate m 0) 0 (omega (arith, length-replicate {A = ℕ} m 0))

-- a wide copy laid over zeros: past its end the list reads 0, as the zeros do
pub copied : (v : List ℕ) (m : ℕ) {w : List ℕ} → w ≡ filled (x_of v) (replicate m 0) (length v) → (k : ℕ) → get_or w k 0 ≡ get_or v k 0
copied v m e k = ap (λ (x : List ℕ). get_or x k 0) e ∙ by (dec_lt k (length v))
  where
    by : Dec (k < length v) → get_or (filled (x_of v) (replicate m 0) (length v)) k 0 ≡ get_or v k 0
    by (yes l) = filled-get (x_of v) (replicate m 0) (length v) k l
    by (no l) =
        let g : length v ≤ k = omega arith in
        filled-rest (x_of v) (replicate m 0) (length v) k g ∙ zero-at m k ∙ sym (get_or-eq_default v 0 g)

pub copied-small : (v w : List ℕ) → Small v → ((k : ℕ) → get_or w k 0 ≡ get_or v k 0) → Small w
copied-small v w b h = record { most = λ k. omega (arith, b.most k, h k) }

-- m columns from k on
pub number-part : (c : List (List ℕ)) (k m s j : ℕ) → s < m → number (take m (drop k c)) s j ≡ number c (k + s) j
number-part c k m s j l = ap (λ (x : List ℕ). get_or x j 0) (get_or-take m (drop k c) s [] l ∙ get_or-drop k c s [])

pub small-part : (c : List (List ℕ)) (k m : ℕ) → SmallColumns c → SmallColumns (take m (drop k c))
small-part c k m h = record { most = λ s j. by s j (dec_lt s m) }
  where
    by : (s j : ℕ) → Dec (s < m) → number (take m (drop k c)) s j ≤ 30
    by s j (yes l) = rw (number-part c k m s j l) (h.most (k + s) j)
    by s j (no l) = rw (get_or-eq_default (take m (drop k c)) [] {n = s} (omega (arith, length-take m (drop k c)))) (omega arith)

pub combined_most : (v : List ℕ) (c : List (List ℕ)) (j k : ℕ) → Small v → SmallColumns c → combined v c j k ≤ 900 * k
unfolding combined
combined_most v c j zero a b = omega arith
combined_most v c j (suc k) a b =
    let p : get_or v k 0 * number c k j ≤ 900 = mul-le-mul (a.most k) (b.most k j) in
    omega (arith, combined_most v c j k a b)

-- equal factors, equal sums
combined-same : (v w : List ℕ) (c : List (List ℕ)) (j : ℕ) → ((k : ℕ) → get_or w k 0 ≡ get_or v k 0) → (k : ℕ) → combined w c j k ≡ combined v c j k
unfolding combined
combined-same v w c j e zero = refl
combined-same v w c j e (suc k) = rw (combined-same v w c j e k, e k)

-- past the last factor the sum stays
combined-past : (v : List ℕ) (c : List (List ℕ)) (j m : ℕ) → combined v c j (length v + m) ≡ combined v c j (length v)
unfolding combined
combined-past v c j zero = let q : length v + 0 ≡ length v = omega arith in rw q
combined-past v c j (suc m) =
    let q : length v + suc m ≡ suc (length v + m) = omega arith in
    let z : get_or v (length v + m) 0 ≡ 0 = get_or-eq_default v 0 (omega arith) in
    let y : 0 * number c (length v + m) j ≡ 0 = omega arith in
    rw (q, z, y) (omega (arith, combined-past v c j m))

-- four factors, those from k on
pub four-at : (v : List ℕ) (k : ℕ) {a b c d : ℕ} → a ≡ get_or v k 0 → b ≡ get_or v (k + 1) 0 → c ≡ get_or v (k + 2) 0 → d ≡ get_or v (k + 3) 0
    → (s : ℕ) → s < 4 → get_or (a ∷ b ∷ c ∷ d ∷ []) s 0 ≡ get_or v (k + s) 0
four-at v k e f g h zero l = let z : k + 0 ≡ k = omega arith in rw z e
four-at v k e f g h (suc zero) l = f
four-at v k e f g h (suc (suc zero)) l = g
four-at v k e f g h (suc (suc (suc zero))) l = h
four-at v k e f g h (suc (suc (suc (suc s)))) l = absurd (omega arith)

-- four more, of four such factors and columns
combined-four :
    (v f : List ℕ) (c e : List (List ℕ)) (j k : ℕ) →
    ((s : ℕ) → s < 4 → get_or f s 0 ≡ get_or v (k + s) 0) →
    ((s : ℕ) → s < 4 → number e s j ≡ number c (k + s) j) →
    combined v c j (k + 4) ≡ combined v c j k + combined f e j 4
unfolding combined
combined-four v f c e j k p q =
    let a : k + 4 ≡ suc (suc (suc (suc k))) = omega arith in
    let k₀ : k + 0 ≡ k = omega arith in
    let k₁ : k + 1 ≡ suc k = omega arith in
    let k₂ : k + 2 ≡ suc (suc k) = omega arith in
    let k₃ : k + 3 ≡ suc (suc (suc k)) = omega arith in
    rw (a, p 0 (omega arith), p 1 (omega arith), p 2 (omega arith), p 3 (omega arith), q 0 (omega arith), q 1 (omega arith), q 2 (omega arith), q 3 (omega arith), k₀, k₁, k₂, k₃) (omega arith)

-- eight more, as the code reads them
pub combined-eight :
    (v f g : List ℕ) (c : List (List ℕ)) (j k m n : ℕ) → 8 ≤ m → 4 ≤ n →
    ((s : ℕ) → s < 4 → get_or f s 0 ≡ get_or v (k + s) 0) →
    ((s : ℕ) → s < 4 → get_or g s 0 ≡ get_or v (k + 4 + s) 0) →
    combined v c j k + (combined f (take m (drop k c)) j 4 + combined g (take n (drop 4 (take m (drop k c)))) j 4) ≡ combined v c j (k + 8)
combined-eight v f g c j k m n a b p q =
    let e : k + 8 ≡ k + 4 + 4 = omega arith in
    let first = combined-four v f c (take m (drop k c)) j k p (λ s l. number-part c k m s j (omega arith)) in
    let second = combined-four v g c (take n (drop 4 (take m (drop k c)))) j (k + 4) q (λ s l.
    number-part (take m (drop k c)) 4 n s j (omega arith) ∙ number-part c k m (4 + s) j (omega arith) ∙ ap (λ (x : ℕ). number c x j) (omega arith)) in
    rw e (omega (arith, first, second))

-- a copy's factors serve, and those past the last are 0
pub sums_of : (v w : List ℕ) (c : List (List ℕ)) (count m : ℕ) {sums : List ℕ} → ((k : ℕ) → get_or w k 0 ≡ get_or v k 0) → length v ≤ m
    → ColumnSums w c count m sums → ColumnSums v c count (length v) sums
sums_of v w c count m e l s =
    let q : m ≡ length v + (m - length v) = omega arith in
    record { sum = λ j h. s.sum j h ∙ combined-same v w c j e m ∙ ap (combined v c j) q ∙ combined-past v c j (m - length v) }

pub sums_none : (v : List ℕ) (c : List (List ℕ)) (count : ℕ) {sums : List ℕ} → sums ≡ replicate 128 0 → ColumnSums v c count 0 sums
unfolding combined
sums_none v c count e = record { sum = λ j h. ap (λ (x : List ℕ). get_or x j 0) e ∙ zero-at 128 j }
