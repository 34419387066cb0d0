-- What a row means: its powers and its phase modulo d, as functions. Product, power and pairing of lists are those of `symplectic`.
-- Assumes nothing.
use mathlib.Core.Path.{◌≡◌, refl, sym, ap, ◌∙◌, subst}
use mathlib.Core.List.{List}
use Prim.Native.Nat.{ℕ, zero, suc, ◌+◌, ◌-◌, ◌*◌, ◌%◌, ◌<◌}
use native.Mathlib.Nat.{mod-lt}
use native.Mathlib.Decide.{dec_lt}
use native.Mathlib.Omega.{arith}
use lib.ListN.{length, get_or, set, length-set}
use lib.Seq.{get_or-set_same, get_or-set_other, ext_get_or}
use Rattle.congruence.proofs.Congruence.{Cong, cong_refl, cong_eq, cong_sym, cong_trans, cong_add, cong_mul, cong_mul-left, cong_mod, small_cong}
use Rattle.congruence.proofs.Sum.{sum}
use Rattle.symplectic.proofs.Triangle.{tri-half}
use Rattle.symplectic.proofs.Triangle
use Rattle.symplectic.proofs.Pairing.{half, half_cong, pair}
use Rattle.modular.specs.Modular.{neg, tri}
use Rattle.row.specs.Row.{Row, phase_of, row_of, dot, product, power, pairing}
use Rattle.row_laws.specs.Scalar.{none, scalar}
use Rattle.row.proofs.Fill.{row-power, row-phase, row_below}

-- the bytes of a list as a function
abbrev pub bytes : List ℕ → ℕ → ℕ
bytes v s = get_or v s 0

-- The powers and the phase of a list are u and r modulo d.
pub record Denotes (d n : ℕ) (v : List ℕ) (u : ℕ → ℕ) (r : ℕ) : Type 0 where
  pub powers : (s : ℕ) → s < n + n → Cong d (get_or v s 0) (u s)
  pub phase : Cong d (get_or v (2 * n) 0) r

-- So for a row, whose bytes are below d.
pub record Reads (d n : ℕ) (v : List ℕ) (u : ℕ → ℕ) (r : ℕ) : Type 0 where
  pub len : length v ≡ 2 * n + 1
  pub small : (s : ℕ) → s < 2 * n + 1 → get_or v s 0 < d
  pub powers : (s : ℕ) → s < n + n → Cong d (get_or v s 0) (u s)
  pub phase : Cong d (get_or v (2 * n) 0) r

pub denotes : {d n : ℕ} {v : List ℕ} {u : ℕ → ℕ} {r : ℕ} → Reads d n v u r → Denotes d n v u r
denotes a = record { powers = a.powers; phase = a.phase }

pub denotes-self : (d n : ℕ) (v : List ℕ) → Denotes d n v (bytes v) (phase_of n v)
denotes-self d n v = record { powers = λ s l. cong_refl d _; phase = cong_refl d _ }

pub reads-means : {d n : ℕ} {v : List ℕ} {u : ℕ → ℕ} {r : ℕ} → Row d n v → Denotes d n v u r → Reads d n v u r
reads-means h a = record { len = h.len; small = h.below; powers = a.powers; phase = a.phase }

-- A row means its own bytes.
pub reads_self : {d n : ℕ} {v : List ℕ} → Row d n v → Reads d n v (bytes v) (phase_of n v)
reads_self {d} {n} {v} h = reads-means h (denotes-self d n v)

pub reads-row : {d n : ℕ} {v : List ℕ} {u : ℕ → ℕ} {r : ℕ} → Reads d n v u r → Row d n v
reads-row a = record { len = a.len; below = a.small }

-- Where there is a row, d is not 0.
pub positive : {d n : ℕ} {v : List ℕ} → Row d n v → 0 < d
positive h = omega (arith, h.below 0 (omega arith))

-- A row is settled by what it means.
pub unique : {d n : ℕ} {v w : List ℕ} {u : ℕ → ℕ} {r : ℕ} → Reads d n v u r → Reads d n w u r → v ≡ w
unique {d} {n} {v} {w} a b =
    ext_get_or 0 v w (a.len ∙ sym b.len)
    (λ i l.
    let k : i < 2 * n + 1 = omega (arith, a.len) in
    small_cong (go i (dec_lt i (n + n)) k) (a.small i k) (b.small i k))
  where
    go : (i : ℕ) → Dec (i < n + n) → i < 2 * n + 1 → Cong d (get_or v i 0) (get_or w i 0)
    go i (yes k) l = cong_trans (a.powers i k) (cong_sym (b.powers i k))
    go i (no k) l =
        let e : 2 * n ≡ i = omega arith in
        subst (λ (z : ℕ). Cong d (get_or v z 0) (get_or w z 0)) e (cong_trans a.phase (cong_sym b.phase))

pub reads_cong : {d n : ℕ} {v : List ℕ} {u u' : ℕ → ℕ} {r r' : ℕ} → ((s : ℕ) → s < n + n → Cong d (u s) (u' s)) → Cong d r r'
    → Reads d n v u r → Reads d n v u' r'
reads_cong hu hr a =
    record { len = a.len; small = a.small; powers = λ s l. cong_trans (a.powers s l) (hu s l); phase = cong_trans a.phase hr }

-- powers that are equal and not only congruent
pub reads_same : {d n : ℕ} {v : List ℕ} {u u' : ℕ → ℕ} {r r' : ℕ} → ((s : ℕ) → u s ≡ u' s) → Cong d r r' → Reads d n v u r → Reads d n v u' r'
reads_same {d} e c = reads_cong (λ s l. cong_eq d (e s)) c

pub reads-phase : {d n : ℕ} {v : List ℕ} {u : ℕ → ℕ} {r r' : ℕ} → Cong d r r' → Reads d n v u r → Reads d n v u r'
reads-phase {d} hr a = reads_cong (λ s l. cong_refl d _) hr a

pub reads_of : {d n : ℕ} {v w : List ℕ} {u : ℕ → ℕ} {r : ℕ} → w ≡ v → Reads d n v u r → Reads d n w u r
reads_of {d} {n} {u = u} {r = r} e a = subst (λ (x : List ℕ). Reads d n x u r) (sym e) a

-- Powers first, then the phase.
pub made : (d n : ℕ) (v : List ℕ) (u : ℕ → ℕ) (x r : ℕ) → length v ≡ 2 * n + 1
    → ((s : ℕ) → s < n + n → get_or v s 0 < d)
    → ((s : ℕ) → s < n + n → Cong d (get_or v s 0) (u s))
    → x < d
    → Cong d x r
    → Reads d n (set v (2 * n) x) u r
made d n v u x r l hs hp lx hx =
    record {
      len = length-set v (2 * n) x ∙ l;
      small = λ s k. go s (dec_lt s (n + n)) k;
      powers = λ s k. subst (λ (z : ℕ). Cong d z (u s)) (sym (other s k)) (hp s k);
      phase = subst (λ (z : ℕ). Cong d z r) (sym at-phase) hx;
    }
  where
    at-phase : get_or (set v (2 * n) x) (2 * n) 0 ≡ x
    at-phase = get_or-set_same v (2 * n) x 0 (omega arith)

    other : (s : ℕ) → s < n + n → get_or (set v (2 * n) x) s 0 ≡ get_or v s 0
    other s k = get_or-set_other v (2 * n) s x 0 (λ e. omega arith)

    go : (s : ℕ) → Dec (s < n + n) → s < 2 * n + 1 → get_or (set v (2 * n) x) s 0 < d
    go s (yes k) b = omega (arith, other s k, hs s k)
    go s (no k) b =
        let e : s ≡ 2 * n = omega arith in
        omega (arith, ap (λ (z : ℕ). get_or (set v (2 * n) x) z 0) e, at-phase)

-- The row made of reduced powers and a reduced phase.
rest : (d x : ℕ) → Cong d (x % d) x
rest d x = cong_sym (cong_mod d x)

denotes-row : (d n : ℕ) (f : ℕ → ℕ) (x : ℕ) → Denotes d n (row_of n f x) f x
denotes-row d n f x =
    record { powers = λ s l. cong_eq d (row-power n f x s (omega arith)); phase = cong_eq d (row-phase n f x) }

pub reads_reduced : {d : ℕ} (n : ℕ) → 0 < d → (u : ℕ → ℕ) (r : ℕ) → Reads d n (row_of n (λ s. u s % d) (r % d)) u r
reads_reduced {d} n p u r =
    reads_cong (λ s l. rest d (u s)) (rest d r)
    (reads-means (row_below n _ _ d (λ s l. mod-lt (u s) p) (mod-lt r p)) (denotes-row d n _ _))

-- ω^r
pub reads-scalar : (d n r : ℕ) → r < d → Reads d n (scalar n r) (λ s. 0) r
unfolding scalar
reads-scalar d n r l = reads-means (row_below n none r d (λ s k. omega arith) l) (denotes-row d n none r)

pub dot-is : (n : ℕ) (v w : List ℕ) → dot n v w n ≡ half n (bytes v) (bytes w)
unfolding dot sum
dot-is n v w = go n
  where
    go : (k : ℕ) → dot n v w k ≡ sum k (λ q. bytes v (n + q) * bytes w q)
    go zero = refl
    go (suc k) = ap (λ (z : ℕ). z + bytes v (n + k) * bytes w k) (go k)

pub dot-means : {d n : ℕ} {v w : List ℕ} {u x : ℕ → ℕ} {r y : ℕ} → Denotes d n v u r → Denotes d n w x y → Cong d (dot n v w n) (half n u x)
dot-means {d} {n} {v} {w} {u} {x} a b =
    cong_trans (cong_eq d (dot-is n v w)) (half_cong n d (bytes v) u (bytes w) x a.powers b.powers)

-- The product and the powers of any lists are rows, and this is what they mean.
pub product-means : {d n : ℕ} → 0 < d → {v w : List ℕ} {u x : ℕ → ℕ} {r y : ℕ} → Denotes d n v u r → Denotes d n w x y
    → Reads d n (product d n v w) (λ s. u s + x s) (r + y + half n u x)
unfolding product
product-means {d} {n} p {v} {w} a b =
    reads_cong (λ s l. cong_add (a.powers s l) (b.powers s l)) (cong_add (cong_add a.phase b.phase) (dot-means a b))
    (reads_reduced n p (λ s. bytes v s + bytes w s) _)

pub tri-is : (h : ℕ) → tri h ≡ Triangle.tri h
tri-is h = sym (tri-half h)

pub power-means : {d n : ℕ} → 0 < d → (h : ℕ) {v : List ℕ} {u : ℕ → ℕ} {r : ℕ} → Denotes d n v u r
    → Reads d n (power d n h v) (λ s. h * u s) (h * r + Triangle.tri h * half n u u)
unfolding power
power-means {d} {n} p h {v} a =
    reads_cong (λ s l. cong_mul-left h (a.powers s l))
    (cong_add (cong_mul-left h a.phase) (cong_mul (cong_eq d (tri-is h)) (dot-means a a)))
    (reads_reduced n p (λ s. h * bytes v s) _)

pub reads-product : {d n : ℕ} → 0 < d → {v w : List ℕ} {u x : ℕ → ℕ} {r y : ℕ} → Reads d n v u r → Reads d n w x y
    → Reads d n (product d n v w) (λ s. u s + x s) (r + y + half n u x)
reads-product p a b = product-means p (denotes a) (denotes b)

pub reads-power : {d n : ℕ} → 0 < d → (h : ℕ) {v : List ℕ} {u : ℕ → ℕ} {r : ℕ} → Reads d n v u r
    → Reads d n (power d n h v) (λ s. h * u s) (h * r + Triangle.tri h * half n u u)
reads-power p h a = power-means p h (denotes a)

-- The pairing, with e for -1 modulo suc e.
pub neg_small : {d : ℕ} → 0 < d → (x : ℕ) → neg d x < d
neg_small {d} p x = mod-lt (d - x % d) p

pub neg_is : (e x : ℕ) → Cong (suc e) (neg (suc e) x) (e * x)
neg_is e x =
    cong_trans (rest (suc e) _) (cong_trans (sub (x % suc e) (mod-lt x (omega arith))) (cong_mul-left e (rest (suc e) x)))
  where
    sub : (m : ℕ) → m < suc e → Cong (suc e) (suc e - m) (e * m)
    sub m l = record { p = m; q = 1; eq = omega arith }

pub pairing-small : {d : ℕ} → 0 < d → (n : ℕ) (v w : List ℕ) → pairing d n v w < d
unfolding pairing
pairing-small p n v w = mod-lt _ p

pub pairing-means : {e n : ℕ} {v w : List ℕ} {u x : ℕ → ℕ} {r y : ℕ} → Denotes (suc e) n v u r → Denotes (suc e) n w x y
    → Cong (suc e) (pairing (suc e) n v w) (pair e n u x)
unfolding pairing
pairing-means {e} {n} {v} {w} a b =
    cong_trans (rest (suc e) _) (cong_add (dot-means a b) (cong_trans (neg_is e (dot n w v n)) (cong_mul-left e (dot-means b a))))

pub pairing-is : (e n : ℕ) (v w : List ℕ) → Cong (suc e) (pairing (suc e) n v w) (pair e n (bytes v) (bytes w))
pairing-is e n v w = pairing-means (denotes-self (suc e) n v) (denotes-self (suc e) n w)
