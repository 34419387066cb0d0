-- m vectors of length m with a dual family: every vector is the combination of them whose coefficients are its inner products with the duals.
-- Numbers are read modulo d = suc e, of which only the inverses are used. Assumes nothing.
use mathlib.Core.Path.{◌≡◌, refl, sym, ◌∙◌, ap, subst}
use Prim.Native.Nat.{ℕ, zero, suc, ◌+◌, ◌*◌, ◌≤◌, ◌<◌, ◌%◌}
use native.Mathlib.Omega.{arith}
use native.Mathlib.Decide.{ℕ_discrete}
use native.Mathlib.Nat.{zero-mod}
use Rattle.congruence.proofs.Congruence.{Cong, cong_refl, cong_eq, cong_sym, cong_trans, cong_add, cong_mul-left, cong_mul-right, cong_of_mod, small_cong}
use Rattle.congruence.proofs.Sum.{sum, sum_congr, sum_cong, sum-add, sum-mul, sum-zero, move, move_same, move-other, sum-move, dot, dot-add, dot-sum}

-- A multiple of 0, and a sum of zeros.
pub none_left : {d x : ℕ} (c : ℕ) → Cong d x 0 → Cong d (c * x) 0
none_left c h = cong_trans (cong_mul-left c h) (cong_eq _ (omega arith))

pub none_right : {d x : ℕ} (c : ℕ) → Cong d x 0 → Cong d (x * c) 0
none_right c h = cong_trans (cong_mul-right c h) (cong_eq _ (omega arith))

pub sum-none : (d n : ℕ) (f : ℕ → ℕ) → ((i : ℕ) → i < n → Cong d (f i) 0) → Cong d (sum n f) 0
sum-none d n f h = cong_trans (sum_cong d n f (λ i. 0) h) (cong_eq d (sum-zero n))

-- A vector that has an inner product other than 0 has an entry other than 0.
pivot : (d m : ℕ) (u v : ℕ → ℕ) → ¬ Cong d (dot m u v) 0 → (t : ℕ) × t < m × ¬ (u t % d ≡ 0)
unfolding sum
pivot d zero u v h = absurd (h (cong_refl d 0))
pivot d (suc m) u v h = go (ℕ_discrete (u m % d) 0) (pivot d m u v)
  where
    go : Dec (u m % d ≡ 0)
        → (¬ Cong d (dot m u v) 0 → (t : ℕ) × t < m × ¬ (u t % d ≡ 0))
        → (t : ℕ) × t < suc m × ¬ (u t % d ≡ 0)
    go (no z) ih = (m, omega arith, z)
    go (yes z) ih =
        let r : (t : ℕ) × t < m × ¬ (u t % d ≡ 0) =
        ih (λ c. h (cong_add c (none_right (v m) (cong_of_mod d (u m) 0 (z ∙ sym (zero-mod d)))))) in
        (r.0, omega (arith, r.1), r.2)

-- What is not 0 modulo d has an inverse.
unfoldable pub Inverses : ℕ → Type 0
Inverses d = (u : ℕ) → ¬ (u % d ≡ 0) → (w : ℕ) × Cong d (u * w) 1

-- The vector y less its multiple of p that clears entry t, where w is the inverse of p t modulo suc e.
abbrev clear : (e w t : ℕ) → (ℕ → ℕ) → (ℕ → ℕ) → ℕ → ℕ
clear e w t p y s = y s + e * (y t * w) * p s

clear_at : (e w t : ℕ) (p y : ℕ → ℕ) → Cong (suc e) (p t * w) 1 → Cong (suc e) (clear e w t p y t) 0
clear_at e w t p y h =
    record {
      p = e * y t * h.p;
      q = y t + e * y t * h.q;
      eq = omega (arith, ap (λ (z : ℕ). e * y t * z) h.eq);
    }

-- Inner products with what is orthogonal to p stay.
clear-dot : (e w t m : ℕ) (p y v : ℕ → ℕ)
    → Cong (suc e) (dot m p v) 0
    → Cong (suc e) (dot m (clear e w t p y) v) (dot m y v)
clear-dot e w t m p y v h =
    cong_trans (cong_eq (suc e) (dot-add m y p v (e * (y t * w))))
    (cong_trans (cong_add (cong_refl (suc e) (dot m y v)) (none_left (e * (y t * w)) h)) (cong_eq (suc e) (omega arith)))

-- The same with entry t taken out.
clear-move : (e w t m : ℕ) (p y v : ℕ → ℕ)
    → t ≤ m
    → Cong (suc e) (p t * w) 1
    → Cong (suc e) (dot (suc m) p v) 0
    → Cong (suc e) (dot m (λ s. clear e w t p y (move t m s)) (λ s. v (move t m s))) (dot (suc m) y v)
clear-move e w t m p y v l hw h =
    cong_trans
    (cong_sym
    (cong_trans (cong_eq (suc e) (sum-move m (λ s. clear e w t p y s * v s) t l))
    (cong_trans
    (cong_add (cong_refl (suc e) (dot m (λ s. clear e w t p y (move t m s)) (λ s. v (move t m s))))
    (none_right (v t) (clear_at e w t p y hw)))
    (cong_eq (suc e) (omega arith)))))
    (clear-dot e w t (suc m) p y v h)

-- Every index but t is reached.
unmove : (t m s : ℕ) → t ≤ m → s ≤ m → ¬ (s ≡ t) → (i : ℕ) × i < m × (move t m i ≡ s)
unmove t m s lt ls ne = go (ℕ_discrete s m)
  where
    go : Dec (s ≡ m) → (i : ℕ) × i < m × (move t m i ≡ s)
    go (yes e) = (t, omega arith, move_same t m t refl ∙ sym e)
    go (no e) = (s, omega arith, move-other t m s ne)

-- The families a and b are dual.
abbrev pub Ones : (d m : ℕ) → (a b : ℕ → ℕ → ℕ) → Type 0
Ones d m a b = (i : ℕ) → i < m → Cong d (dot m (a i) (b i)) 1

abbrev pub Zeros : (d m : ℕ) → (a b : ℕ → ℕ → ℕ) → Type 0
Zeros d m a b = (i j : ℕ) → i < m → j < m → ¬ (i ≡ j) → Cong d (dot m (a i) (b j)) 0

-- Every x is the combination of a by its inner products with b.
abbrev pub Expands : (d m : ℕ) → (a b : ℕ → ℕ → ℕ) → Type 0
Expands d m a b = (x : ℕ → ℕ) (s : ℕ) → s < m → Cong d (x s) (sum m (λ j. dot m x (b j) * a j s))

-- One vector more: entry t of all others is cleared by the last one, and taken out.
module _ (e m : ℕ) (a b : ℕ → ℕ → ℕ) (one : Ones (suc e) (suc m) a b) (zer : Zeros (suc e) (suc m) a b) (t w : ℕ) (lt : t ≤ m) (hw : Cong (suc e) (a m t * w) 1) where
  abbrev d : ℕ
  d = suc e

  abbrev sa : ℕ → ℕ → ℕ
  sa i s = clear e w t (a m) (a i) (move t m s)

  abbrev sb : ℕ → ℕ → ℕ
  sb j s = b j (move t m s)

  zm : (j : ℕ) → j < m → Cong d (dot (suc m) (a m) (b j)) 0
  zm j l = zer m j (omega arith) (omega arith) (omega arith)

  one' : Ones d m sa sb
  one' i l = cong_trans (clear-move e w t m (a m) (a i) (b i) lt hw (zm i l)) (one i (omega arith))

  zer' : Zeros d m sa sb
  zer' i j li lj ne =
      cong_trans (clear-move e w t m (a m) (a i) (b j) lt hw (zm j lj)) (zer i j (omega arith) (omega arith) ne)

  module _ (ih : Expands d m sa sb) (x : ℕ → ℕ) where
    abbrev D : ℕ → ℕ
    D j = dot (suc m) x (b j)

    -- The cleared vector is the combination of the cleared ones, at every entry.
    moved : (i : ℕ) → i < m → Cong d (clear e w t (a m) x (move t m i)) (sum m (λ j. D j * clear e w t (a m) (a j) (move t m i)))
    moved i l =
        cong_trans (ih (λ s. clear e w t (a m) x (move t m s)) i l)
        (sum_cong d m
        (λ j. dot m (λ s. clear e w t (a m) x (move t m s)) (sb j) * sa j i)
        (λ j. D j * sa j i)
        (λ j lj. cong_mul-right (sa j i) (clear-move e w t m (a m) x (b j) lt hw (zm j lj))))

    cleared : (s : ℕ) → s ≤ m → Cong d (clear e w t (a m) x s) (sum m (λ j. D j * clear e w t (a m) (a j) s))
    cleared s ls = go (ℕ_discrete s t)
      where
        Goal : ℕ → Type 0
        Goal r = Cong d (clear e w t (a m) x r) (sum m (λ j. D j * clear e w t (a m) (a j) r))

        at-t : Goal t
        at-t =
            cong_trans (clear_at e w t (a m) x hw)
            (cong_sym (sum-none d m (λ j. D j * clear e w t (a m) (a j) t) (λ j lj. none_left (D j) (clear_at e w t (a m) (a j) hw))))

        go : Dec (s ≡ t) → Goal s
        go (yes q) = subst Goal (sym q) at-t
        go (no q) =
            let u : (i : ℕ) × i < m × (move t m i ≡ s) = unmove t m s lt ls q in
            subst Goal u.2 (moved u.0 u.1)

    abbrev S : ℕ → ℕ
    S s = sum m (λ j. D j * a j s)

    -- The coefficient of the last vector.
    abbrev c : ℕ
    c = sum m (λ j. D j * (e * (a j t * w))) + e * (e * (x t * w))

    split : (s : ℕ) → sum m (λ j. D j * clear e w t (a m) (a j) s) ≡ S s + sum m (λ j. D j * (e * (a j t * w))) * a m s
    split s =
        sum_congr m (λ j. D j * clear e w t (a m) (a j) s) (λ j. D j * a j s + a m s * (D j * (e * (a j t * w)))) (λ j lj. omega arith)
        ∙ sum-add m (λ j. D j * a j s) (λ j. a m s * (D j * (e * (a j t * w))))
        ∙ omega (arith, sum-mul m (a m s) (λ j. D j * (e * (a j t * w))))

    almost : (s : ℕ) → s ≤ m → Cong d (x s) (S s + c * a m s)
    almost s ls =
        let h : Cong d (clear e w t (a m) x s) (S s + sum m (λ j. D j * (e * (a j t * w))) * a m s) =
        cong_trans (cleared s ls) (cong_eq d (split s)) in
        record { p = h.p + e * (x t * w) * a m s; q = h.q; eq = omega (arith, h.eq) }

    last : Cong d (D m) c
    last =
        cong_trans
        (sum_cong d (suc m) (λ s. x s * b m s) (λ s. (S s + c * a m s) * b m s)
        (λ s l. cong_mul-right (b m s) (almost s (omega arith))))
        (cong_trans (cong_eq d (dot-add (suc m) S (a m) (b m) c))
        (cong_trans
        (cong_add
        (cong_trans (cong_eq d (dot-sum (suc m) m D a (b m)))
        (sum-none d m (λ j. D j * dot (suc m) (a j) (b m)) (λ j lj. none_left (D j) (zer j m (omega arith) (omega arith) (omega arith)))))
        (cong_mul-left c (one m (omega arith))))
        (cong_eq d (omega arith))))

    step : (s : ℕ) → s < suc m → Cong d (x s) (sum (suc m) (λ j. D j * a j s))
    unfolding sum
    step s l =
        cong_trans (almost s (omega arith)) (cong_add (cong_refl d (S s)) (cong_mul-right (a m s) (cong_sym last)))

nonzero : (e : ℕ) → 1 ≤ e → ¬ Cong (suc e) 1 0
nonzero e le h = omega (arith, small_cong h (omega arith) (omega arith))

pub expand : (e : ℕ) → 1 ≤ e → Inverses (suc e) → (m : ℕ) (a b : ℕ → ℕ → ℕ) → Ones (suc e) m a b → Zeros (suc e) m a b → Expands (suc e) m a b
unfolding Inverses
expand e le inv zero a b one zer = λ x s l. absurd (omega arith)
expand e le inv (suc m) a b one zer =
    let pv : (t : ℕ) × t < suc m × ¬ (a m t % suc e ≡ 0) =
    pivot (suc e) (suc m) (a m) (b m) (λ h. nonzero e le (cong_trans (cong_sym (one m (omega arith))) h)) in
    let iv : (w : ℕ) × Cong (suc e) (a m pv.0 * w) 1 = inv (a m pv.0) pv.2 in
    let lt : pv.0 ≤ m = omega (arith, pv.1) in
    step e m a b one zer pv.0 iv.0 lt iv.1
    (expand e le inv m (sa e m a b one zer pv.0 iv.0 lt iv.1) (sb e m a b one zer pv.0 iv.0 lt iv.1)
    (one' e m a b one zer pv.0 iv.0 lt iv.1)
    (zer' e m a b one zer pv.0 iv.0 lt iv.1))
