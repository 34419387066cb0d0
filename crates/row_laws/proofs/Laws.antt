-- The laws of rows that specs/Laws.antt states. Two rows with the same powers and the same phase modulo d are equal.
-- Assumes nothing.
use mathlib.Core.Path.{◌≡◌, sym, ap, ◌∙◌, subst}
use mathlib.Core.List.{List}
use Prim.Native.Nat.{ℕ, zero, suc, ◌+◌, ◌*◌, ◌%◌, ◌<◌}
use native.Mathlib.Nat.{mod-lt}
use native.Mathlib.Omega.{arith}
use Rattle.congruence.proofs.Congruence.{Cong, cong_eq, cong_sym, cong_trans, cong_add, cong_mul-left, cong_mul-right, cong_mod, small_cong}
use Rattle.symplectic.proofs.Triangle.{tri, tri-add, tri_cong}
use Rattle.symplectic.proofs.Pairing.{half, half-add-left, half-add-right, half-mul-left, half-mul-right, half-none-left, half-none-right, pair, pair-add-left, pair-add-right, pair_scale, pair-self, pair_flip, pair→half, half→pair}
use Rattle.row.specs.Row.{phase_of, product, pairing}
use Rattle.row_laws.specs.Scalar.{scalar}
use Rattle.row_laws.specs.Laws.{Associative, Neutral, PowerZero, PowerOne, PowersAdd, PowerModulo, PairingLeft, PairingRight, PairingPower, PairingSelf, PairingOpposite, Exchange, Commute}
use Rattle.row_laws.proofs.Reading.{bytes, Denotes, Reads, denotes, denotes-self, reads_self, unique, reads_cong, reads_same, reads_of, positive, reads-scalar, product-means, power-means, neg_small, neg_is, pairing-small, pairing-means, pairing-is}

pub associative : Associative
associative d n p u v w =
    unique (product-means p (denotes (product-means p (self u) (self v))) (self w))
    (reads_same (λ s. omega arith)
    (cong_eq d (omega (arith, half-add-left n (bytes u) (bytes v) (bytes w), half-add-right n (bytes u) (bytes v) (bytes w))))
    (product-means p (self u) (denotes (product-means p (self v) (self w)))))
  where
    self : (v : List ℕ) → Denotes d n v (bytes v) (phase_of n v)
    self = denotes-self d n

pub neutral : Neutral
neutral d n v row = (
  unique (reads_same (λ s. omega arith) (cong_eq d (omega (arith, half-none-left n (bytes v)))) (product-means p one self)) (reads_self row),
  unique (reads_same (λ s. omega arith) (cong_eq d (omega (arith, half-none-right n (bytes v)))) (product-means p self one)) (reads_self row),
)
  where
    p : 0 < d
    p = positive row

    self : Denotes d n v (bytes v) (phase_of n v)
    self = denotes-self d n v

    one : Denotes d n (scalar n 0) (λ s. 0) 0
    one = denotes (reads-scalar d n 0 p)

pub power_zero : PowerZero
unfolding tri
power_zero d n p v =
    unique (reads_same (λ s. omega arith) (cong_eq d (omega arith)) (power-means p 0 (denotes-self d n v))) (reads-scalar d n 0 p)

pub power-one : PowerOne
unfolding tri
power-one d n v row =
    unique (reads_same (λ s. omega arith) (cong_eq d (omega arith)) (power-means (positive row) 1 (denotes-self d n v))) (reads_self row)

pub powers-add : PowersAdd
powers-add d n p h k v =
    unique (product-means p (denotes (power-means p h self)) (denotes (power-means p k self)))
    (reads_same (λ s. omega arith) (cong_eq d (omega (arith, cross, ap (λ (z : ℕ). z * half n (bytes v) (bytes v)) (tri-add h k)))) (power-means p _ self))
  where
    self : Denotes d n v (bytes v) (phase_of n v)
    self = denotes-self d n v

    cross : half n (λ s. h * bytes v s) (λ s. k * bytes v s) ≡ h * (k * half n (bytes v) (bytes v))
    cross = half-mul-left n h (bytes v) (λ s. k * bytes v s) ∙ ap (λ (z : ℕ). h * z) (half-mul-right n k (bytes v) (bytes v))

pub power_modulo : PowerModulo
power_modulo d n dim h v =
    unique (power-means p (h % d) self)
    (reads_cong (λ s l. cong_mul-right (bytes v s) (cong_mod d h))
    (cong_add (cong_mul-right (phase_of n v) (cong_mod d h)) (cong_mul-right (half n (bytes v) (bytes v)) triangles))
    (power-means p h self))
  where
    p : 0 < d
    p = omega (arith, dim.low)

    self : Denotes d n v (bytes v) (phase_of n v)
    self = denotes-self d n v

    triangles : Cong d (tri h) (tri (h % d))
    triangles = subst (λ (z : ℕ). Cong z (tri h) (tri (h % z))) (sym dim.odd) (tri_cong dim.half (cong_mod _ h))

-- A pairing is the number below d that is congruent to it.
settled : {e n : ℕ} {v w : List ℕ} {u x : ℕ → ℕ} {r y z : ℕ} → Denotes (suc e) n v u r → Denotes (suc e) n w x y → Cong (suc e) (pair e n u x) z
    → z < suc e
    → pairing (suc e) n v w ≡ z
settled {e} {n} {v} {w} a b c l = small_cong (cong_trans (pairing-means a b) c) (pairing-small (omega arith) n v w) l

pub pairing-left : PairingLeft
pairing-left zero n p u v w = absurd (omega arith)
pairing-left (suc e) n p u v w =
    settled (denotes (product-means p (denotes-self _ n u) (denotes-self _ n v))) (denotes-self _ n w)
    (cong_trans (cong_eq _ (pair-add-left e n (bytes u) (bytes v) (bytes w)))
    (cong_trans (cong_sym (cong_add (pairing-is e n u w) (pairing-is e n v w))) (cong_mod _ _)))
    (mod-lt _ p)

pub pairing-right : PairingRight
pairing-right zero n p u v w = absurd (omega arith)
pairing-right (suc e) n p u v w =
    settled (denotes-self _ n u) (denotes (product-means p (denotes-self _ n v) (denotes-self _ n w)))
    (cong_trans (cong_eq _ (pair-add-right e n (bytes u) (bytes v) (bytes w)))
    (cong_trans (cong_sym (cong_add (pairing-is e n u v) (pairing-is e n u w))) (cong_mod _ _)))
    (mod-lt _ p)

pub pairing-power : PairingPower
pairing-power zero n p h v w = absurd (omega arith)
pairing-power (suc e) n p h v w =
    settled (denotes (power-means p h (denotes-self _ n v))) (denotes-self _ n w)
    (cong_trans (cong_eq _ (pair_scale e n (bytes v) (bytes w) h))
    (cong_trans (cong_sym (cong_mul-left h (pairing-is e n v w))) (cong_mod _ _)))
    (mod-lt _ p)

pub pairing-self : PairingSelf
pairing-self zero n p v = absurd (omega arith)
pairing-self (suc e) n p v = settled (denotes-self _ n v) (denotes-self _ n v) (pair-self e n (bytes v)) p

pub pairing_opposite : PairingOpposite
pairing_opposite zero n p v w = absurd (omega arith)
pairing_opposite (suc e) n p v w =
    settled (denotes-self _ n w) (denotes-self _ n v)
    (cong_trans (pair_flip e n (bytes w) (bytes v))
    (cong_sym (cong_trans (neg_is e (pairing (suc e) n v w)) (cong_mul-left e (pairing-is e n v w)))))
    (neg_small p (pairing (suc e) n v w))

pub exchange : Exchange
exchange zero n p v w = absurd (omega arith)
exchange (suc e) n p v w =
    unique (product-means p (self v) (self w))
    (reads_same (λ s. omega arith) (phases _ _ _ _ _ _ (half-none-left n (λ s. bytes w s + bytes v s)) (pairing-is e n v w))
    (product-means p (denotes (reads-scalar (suc e) n _ (pairing-small p n _ _))) (denotes (product-means p (self w) (self v)))))
  where
    self : (v : List ℕ) → Denotes (suc e) n v (bytes v) (phase_of n v)
    self = denotes-self (suc e) n

    phases : (a b x y z m : ℕ) → m ≡ 0 → Cong (suc e) z (x + e * y) → Cong (suc e) (z + (b + a + y) + m) (a + b + x)
    phases a b x y z m none c = record { p = c.p; q = c.q + y; eq = omega (arith, c.eq) }

pub commute : Commute
commute zero n p v w = absurd (omega arith)
commute (suc e) n p v w = (
  λ same.
      settled self_v self-w
      (half→pair e n (bytes v) (bytes w) (cancel _ _ _ _ (cong_trans (cong_sym vw.phase) (reads_of same wv).phase)))
      p,
  λ nought.
      unique vw
      (reads_same (λ s. omega arith)
      (cong_sym (restore _ _ _ _ (pair→half e n (bytes v) (bytes w) (cong_trans (cong_sym (pairing-is e n v w)) (cong_eq _ nought)))))
      wv),
)
  where
    self_v : Denotes (suc e) n v (bytes v) (phase_of n v)
    self_v = denotes-self (suc e) n v

    self-w : Denotes (suc e) n w (bytes w) (phase_of n w)
    self-w = denotes-self (suc e) n w

    vw : Reads (suc e) n (product (suc e) n v w) (λ s. bytes v s + bytes w s) (phase_of n v + phase_of n w + half n (bytes v) (bytes w))
    vw = product-means p self_v self-w

    wv : Reads (suc e) n (product (suc e) n w v) (λ s. bytes w s + bytes v s) (phase_of n w + phase_of n v + half n (bytes w) (bytes v))
    wv = product-means p self-w self_v

    cancel : (a b x y : ℕ) → Cong (suc e) (a + b + x) (b + a + y) → Cong (suc e) x y
    cancel a b x y c = record { p = c.p; q = c.q; eq = omega (arith, c.eq) }

    restore : (a b x y : ℕ) → Cong (suc e) x y → Cong (suc e) (a + b + x) (b + a + y)
    restore a b x y c = record { p = c.p; q = c.q; eq = omega (arith, c.eq) }
