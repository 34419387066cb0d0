-- Sums over the numbers below n, unit vectors, and inner products of two vectors.
-- Assumes nothing.
use mathlib.Core.Path.{◌≡◌, refl, sym, ◌∙◌, ap}
use Prim.Native.Nat.{ℕ, zero, suc, ◌+◌, ◌*◌, ◌≤◌, ◌<◌}
use native.Mathlib.Omega.{arith}
use native.Mathlib.Decide.{ℕ_discrete}
use Rattle.congruence.proofs.Congruence.{Cong, cong_refl, cong_add}

unfoldable pub sum : ℕ → (ℕ → ℕ) → ℕ
sum zero f = 0
sum (suc n) f = sum n f + f n

pub sum_congr : (n : ℕ) (f g : ℕ → ℕ) → ((i : ℕ) → i < n → f i ≡ g i) → sum n f ≡ sum n g
unfolding sum
sum_congr zero f g h = refl
sum_congr (suc n) f g h = omega (arith, sum_congr n f g (λ i l. h i (omega arith)), h n (omega arith))

pub sum_cong : (d n : ℕ) (f g : ℕ → ℕ) → ((i : ℕ) → i < n → Cong d (f i) (g i)) → Cong d (sum n f) (sum n g)
unfolding sum
sum_cong d zero f g h = cong_refl d 0
sum_cong d (suc n) f g h = cong_add (sum_cong d n f g (λ i l. h i (omega arith))) (h n (omega arith))

pub sum-add : (n : ℕ) (f g : ℕ → ℕ) → sum n (λ i. f i + g i) ≡ sum n f + sum n g
unfolding sum
sum-add zero f g = refl
sum-add (suc n) f g = omega (arith, sum-add n f g)

pub sum-mul : (n c : ℕ) (f : ℕ → ℕ) → sum n (λ i. c * f i) ≡ c * sum n f
unfolding sum
sum-mul zero c f = omega arith
sum-mul (suc n) c f = omega (arith, sum-mul n c f)

pub sum-zero : (n : ℕ) → sum n (λ i. 0) ≡ 0
unfolding sum
sum-zero zero = refl
sum-zero (suc n) = omega (arith, sum-zero n)

pub sum-swap : (n k : ℕ) (f : ℕ → ℕ → ℕ) → sum n (λ i. sum k (λ j. f i j)) ≡ sum k (λ j. sum n (λ i. f i j))
unfolding sum
sum-swap zero k f = sym (sum-zero k)
sum-swap (suc n) k f =
    omega (arith, sum-swap n k f, sum-add k (λ j. sum n (λ i. f i j)) (λ j. f n j))

-- a if the test says yes, else b
unfoldable pub pick : {A : Type 0} → Dec A → ℕ → ℕ → ℕ
pick (yes h) a b = a
pick (no h) a b = b

pub pick_yes : {A : Type 0} (c : Dec A) (a b : ℕ) → A → pick c a b ≡ a
unfolding pick
pick_yes (yes h) a b x = refl
pick_yes (no h) a b x = absurd (h x)

pub pick_no : {A : Type 0} (c : Dec A) (a b : ℕ) → ¬ A → pick c a b ≡ b
unfolding pick
pick_no (yes h) a b x = absurd (x h)
pick_no (no h) a b x = refl

-- One index less: t is taken out, and the last index m stands in its place.
pub move : ℕ → ℕ → ℕ → ℕ
move t m s = pick (ℕ_discrete s t) m s

pub move_same : (t m s : ℕ) → s ≡ t → move t m s ≡ m
unfolding move
move_same t m s e = pick_yes (ℕ_discrete s t) m s e

pub move-other : (t m s : ℕ) → ¬ (s ≡ t) → move t m s ≡ s
unfolding move
move-other t m s e = pick_no (ℕ_discrete s t) m s e

-- A change at one index.
pub sum_change : (k : ℕ) (f g : ℕ → ℕ) (t : ℕ) → t < k → ((i : ℕ) → i < k → ¬ (i ≡ t) → g i ≡ f i) → sum k g + f t ≡ sum k f + g t
unfolding sum
sum_change zero f g t l h = absurd (omega arith)
sum_change (suc k) f g t l h = go (ℕ_discrete t k) (λ lt. sum_change k f g t lt (λ i li. h i (omega arith)))
  where
    go : Dec (t ≡ k) → (t < k → sum k g + f t ≡ sum k f + g t) → sum (suc k) g + f t ≡ sum (suc k) f + g t
    go (yes e) ih = omega (arith, sum_congr k g f (λ i li. h i (omega arith) (omega arith)), ap f e, ap g e)
    go (no e) ih = omega (arith, ih (omega arith), h k (omega arith) (omega arith))

pub sum-move : (m : ℕ) (f : ℕ → ℕ) (t : ℕ) → t ≤ m → sum (suc m) f ≡ sum m (λ s. f (move t m s)) + f t
unfolding sum
sum-move m f t l = go (ℕ_discrete t m)
  where
    go : Dec (t ≡ m) → sum (suc m) f ≡ sum m (λ s. f (move t m s)) + f t
    go (yes e) =
        omega (arith, ap f e, sum_congr m (λ s. f (move t m s)) f (λ i li. ap f (move-other t m i (omega arith))))
    go (no e) =
        omega (
          arith,
          sum_change m f (λ s. f (move t m s)) t (omega arith) (λ i li ne. ap f (move-other t m i ne)),
          ap f (move_same t m t refl),
        )

-- The inner product.
abbrev pub dot : ℕ → (ℕ → ℕ) → (ℕ → ℕ) → ℕ
dot m u v = sum m (λ s. u s * v s)

pub dot-add : (m : ℕ) (u p v : ℕ → ℕ) (k : ℕ) → dot m (λ s. u s + k * p s) v ≡ dot m u v + k * dot m p v
dot-add m u p v k =
    sum_congr m (λ s. (u s + k * p s) * v s) (λ s. u s * v s + k * (p s * v s)) (λ i l. omega arith)
    ∙ sum-add m (λ s. u s * v s) (λ s. k * (p s * v s))
    ∙ ap (λ (z : ℕ). dot m u v + z) (sum-mul m k (λ s. p s * v s))

-- The inner product of a combination of vectors.
pub dot-sum : (m k : ℕ) (c : ℕ → ℕ) (a : ℕ → ℕ → ℕ) (v : ℕ → ℕ)
    → dot m (λ s. sum k (λ j. c j * a j s)) v ≡ sum k (λ j. c j * dot m (a j) v)
dot-sum m k c a v =
    sum_congr m (λ s. sum k (λ j. c j * a j s) * v s) (λ s. sum k (λ j. v s * (c j * a j s)))
    (λ s l. omega (arith, sum-mul k (v s) (λ j. c j * a j s)))
    ∙ sum-swap m k (λ s j. v s * (c j * a j s))
    ∙ sum_congr k (λ j. sum m (λ s. v s * (c j * a j s))) (λ j. c j * dot m (a j) v)
    (λ j l.
    sum_congr m (λ s. v s * (c j * a j s)) (λ s. c j * (a j s * v s)) (λ s l'. omega arith)
    ∙ sum-mul m (c j) (λ s. a j s * v s))

pub sum-split : (n k : ℕ) (f : ℕ → ℕ) → sum (n + k) f ≡ sum n f + sum k (λ i. f (n + i))
unfolding sum
sum-split n zero f =
    let q : n + 0 ≡ n = omega arith in
    ap (λ (z : ℕ). sum z f) q ∙ omega arith
sum-split n (suc k) f =
    let q : n + suc k ≡ suc (n + k) = omega arith in
    ap (λ (z : ℕ). sum z f) q ∙ ap (λ (z : ℕ). z + f (n + k)) (sum-split n k f) ∙ omega arith

-- 1 at k, else 0.
pub unit : ℕ → ℕ → ℕ
unit k s = pick (ℕ_discrete s k) 1 0

pub unit-same : (k s : ℕ) → s ≡ k → unit k s ≡ 1
unfolding unit
unit-same k s e = pick_yes (ℕ_discrete s k) 1 0 e

pub unit-other : (k s : ℕ) → ¬ (s ≡ k) → unit k s ≡ 0
unfolding unit
unit-other k s e = pick_no (ℕ_discrete s k) 1 0 e

pub sum-unit-out : (n k : ℕ) (f : ℕ → ℕ) → n ≤ k → sum n (λ i. unit k i * f i) ≡ 0
sum-unit-out n k f l =
    sum_congr n (λ i. unit k i * f i) (λ i. 0) (λ i li. ap (λ (z : ℕ). z * f i) (unit-other k i (omega arith)) ∙ omega arith)
    ∙ sum-zero n

pub sum-unit : (n k : ℕ) (f : ℕ → ℕ) → k < n → sum n (λ i. unit k i * f i) ≡ f k
unfolding sum
sum-unit zero k f l = absurd (omega arith)
sum-unit (suc n) k f l = go (ℕ_discrete k n) (sum-unit n k f)
  where
    go : Dec (k ≡ n) → (k < n → sum n (λ i. unit k i * f i) ≡ f k) → sum (suc n) (λ i. unit k i * f i) ≡ f k
    go (yes e) ih =
        omega (arith, sum-unit-out n k f (omega arith), ap (λ (z : ℕ). z * f n) (unit-same k n (sym e)), ap f e)
    go (no e) ih =
        omega (arith, ih (omega arith), ap (λ (z : ℕ). z * f n) (unit-other k n (λ q. e (sym q))))
