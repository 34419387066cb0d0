-- The six gates and the errors keep the product of rows.
-- Assumes nothing.
use mathlib.Core.Path.{◌≡◌, refl, sym, ◌∙◌, ap}
use Prim.Native.Nat.{ℕ, suc, ◌+◌, ◌*◌, ◌<◌}
use native.Mathlib.Omega.{arith}
use native.Mathlib.Decide.{ℕ_discrete}
use Rattle.congruence.proofs.Congruence.{Cong, cong_refl, cong_eq, cong_sym, cong_trans, cong_add, cong_mul, cong_mul-left}
use Rattle.congruence.proofs.Sum.{sum_change, pick, pick_yes, pick_no}
use Rattle.symplectic.proofs.Triangle.{tri, tri-add, tri_cong}
use Rattle.symplectic.proofs.Pairing.{half}
use Rattle.symplectic.proofs.Map.{Same, Hom}

pick_rel : {X : Type 0} (c : Dec X) (R : ℕ → ℕ → ℕ → Type 0) (a b a' b' a'' b'' : ℕ) → R a a' a'' → R b b' b''
    → R (pick c a b) (pick c a' b') (pick c a'' b'')
unfolding pick
pick_rel (yes x) R a b a' b' a'' b'' h k = h
pick_rel (no x) R a b a' b' a'' b'' h k = k

-- The powers u with X power a and Z power b on q.
pub put : (n q a b : ℕ) → (ℕ → ℕ) → ℕ → ℕ
put n q a b u s = pick (ℕ_discrete s q) a (pick (ℕ_discrete s (n + q)) b (u s))

pub put_rel : (n q : ℕ) (R : ℕ → ℕ → ℕ → Type 0) (a b : ℕ) (u : ℕ → ℕ) (a' b' : ℕ) (u' : ℕ → ℕ) (a'' b'' : ℕ) (u'' : ℕ → ℕ) (s : ℕ)
    → R a a' a'' → R b b' b'' → R (u s) (u' s) (u'' s) → R (put n q a b u s) (put n q a' b' u' s) (put n q a'' b'' u'' s)
unfolding put
put_rel n q R a b u a' b' u' a'' b'' u'' s ha hb hu =
    pick_rel (ℕ_discrete s q) R a _ a' _ a'' _ ha
    (pick_rel (ℕ_discrete s (n + q)) R b (u s) b' (u' s) b'' (u'' s) hb hu)

pub put_x : (n q a b : ℕ) (u : ℕ → ℕ) → put n q a b u q ≡ a
unfolding put
put_x n q a b u = pick_yes (ℕ_discrete q q) a (pick (ℕ_discrete q (n + q)) b (u q)) refl

pub put_z : (n q a b : ℕ) (u : ℕ → ℕ) → q < n → put n q a b u (n + q) ≡ b
unfolding put
put_z n q a b u l =
    pick_no (ℕ_discrete (n + q) q) a (pick (ℕ_discrete (n + q) (n + q)) b (u (n + q))) (omega arith)
    ∙ pick_yes (ℕ_discrete (n + q) (n + q)) b (u (n + q)) refl

pub put_other : (n q a b : ℕ) (u : ℕ → ℕ) (s : ℕ) → ¬ (s ≡ q) → ¬ (s ≡ n + q) → put n q a b u s ≡ u s
unfolding put
put_other n q a b u s x y =
    pick_no (ℕ_discrete s q) a (pick (ℕ_discrete s (n + q)) b (u s)) x ∙ pick_no (ℕ_discrete s (n + q)) b (u s) y

pub half-put : (n q a b : ℕ) (u : ℕ → ℕ) (a' b' : ℕ) (w : ℕ → ℕ) → q < n
    → half n (put n q a b u) (put n q a' b' w) + u (n + q) * w q ≡ half n u w + b * a'
half-put n q a b u a' b' w l =
    sum_change n (λ i. u (n + i) * w i) (λ i. put n q a b u (n + i) * put n q a' b' w i) q l
    (λ i li x.
    ap (λ (z : ℕ). z * put n q a' b' w i) (put_other n q a b u (n + i) (omega arith) (λ y. x (omega arith)))
    ∙ ap (λ (z : ℕ). u (n + i) * z) (put_other n q a' b' w i x (omega arith)))
    ∙ ap (λ (z : ℕ). half n u w + z)
    (ap (λ (z : ℕ). z * put n q a' b' w q) (put_z n q a b u l) ∙ ap (λ (z : ℕ). b * z) (put_x n q a' b' w))

-- Linear functions of a row's powers.
pub record Linear (d n : ℕ) (A : (ℕ → ℕ) → ℕ) : Type 0 where
  pub resp : (u w : ℕ → ℕ) → Same d n u w → Cong d (A u) (A w)
  pub add : (u w : ℕ → ℕ) → A (λ s. u s + w s) ≡ A u + A w
  pub none : A (λ s. 0) ≡ 0

pub at : (d n s : ℕ) → s < n + n → Linear d n (λ u. u s)
at d n s l = record { resp = λ u w h. h s l; add = λ u w. refl; none = refl }

pub plus : (d n : ℕ) (A B : (ℕ → ℕ) → ℕ) → Linear d n A → Linear d n B → Linear d n (λ u. A u + B u)
plus d n A B a b =
    record {
      resp = λ u w h. cong_add (a.resp u w h) (b.resp u w h);
      add = λ u w. omega (arith, a.add u w, b.add u w);
      none = omega (arith, a.none, b.none);
    }

pub times : (d n c : ℕ) (A : (ℕ → ℕ) → ℕ) → Linear d n A → Linear d n (λ u. c * A u)
times d n c A a =
    record {
      resp = λ u w h. cong_mul-left c (a.resp u w h);
      add = λ u w. ap (λ (z : ℕ). c * z) (a.add u w) ∙ omega arith;
      none = ap (λ (z : ℕ). c * z) a.none ∙ omega arith;
    }

law_of : (d H K x y D E : ℕ) → K + x ≡ H + y → Cong d (x + D) (E + y) → Cong d (H + D) (E + K)
law_of d H K x y D E e h = record { p = h.p; q = h.q; eq = omega (arith, h.eq) }

-- A gate on one qudit, from its law there.
module _ (d n q : ℕ) (lq : q < n) (A B δ : (ℕ → ℕ) → ℕ) (a : Linear d n A) (b : Linear d n B)
    (gain : (u w : ℕ → ℕ) → Same d n u w → Cong d (δ u) (δ w))
    (none : Cong d (δ (λ s. 0)) 0)
    (law : (u w : ℕ → ℕ) → Cong d (u (n + q) * w q + δ (λ s. u s + w s)) (δ u + δ w + B u * A w)) where
  pub gate1 : Hom d n (λ u. put n q (A u) (B u) u) δ
  gate1 =
      record {
        resp = λ u w h s l. put_rel n q (λ x y z. Cong d x y) _ _ u _ _ w 0 0 u s (a.resp u w h) (b.resp u w h) (h s l);
        gain = gain;
        none = λ s l.
            put_rel n q (λ x y z. Cong d x 0) _ _ (λ s. 0) 0 0 (λ s. 0) 0 0 (λ s. 0) s
            (cong_eq d a.none)
            (cong_eq d b.none)
            (cong_refl d 0);
        none-gain = none;
        add = λ u w s l.
            put_rel n q (λ x y z. Cong d x (y + z)) _ _ (λ s. u s + w s) _ _ u _ _ w s
            (cong_eq d (a.add u w))
            (cong_eq d (b.add u w))
            (cong_refl d (u s + w s));
        law = λ u w. law_of d _ _ (u (n + q) * w q) (B u * A w) _ _ (half-put n q (A u) (B u) u (A w) (B w) w lq) (law u w);
      }

-- A gate on two qudits.
module _ (d n c t : ℕ) (lc : c < n) (lt : t < n) (ne : ¬ (c ≡ t)) (A B C D δ : (ℕ → ℕ) → ℕ)
    (a : Linear d n A) (b : Linear d n B) (c' : Linear d n C) (d' : Linear d n D)
    (gain : (u w : ℕ → ℕ) → Same d n u w → Cong d (δ u) (δ w))
    (none : Cong d (δ (λ s. 0)) 0)
    (law : (u w : ℕ → ℕ) → Cong d (u (n + c) * w c + u (n + t) * w t + δ (λ s. u s + w s)) (δ u + δ w + (B u * A w + D u * C w))) where
  abbrev put2 : (ℕ → ℕ) → ℕ → ℕ
  put2 u = put n t (C u) (D u) (put n c (A u) (B u) u)

  half-put2 : (u w : ℕ → ℕ) → half n (put2 u) (put2 w) + (u (n + c) * w c + u (n + t) * w t) ≡ half n u w + (B u * A w + D u * C w)
  half-put2 u w =
      omega (
        arith,
        half-put n t (C u) (D u) (put n c (A u) (B u) u) (C w) (D w) (put n c (A w) (B w) w) lt,
        ap (λ (z : ℕ). z * put n c (A w) (B w) w t) (put_other n c (A u) (B u) u (n + t) (omega arith) (λ x. ne (omega arith)))
            ∙ ap (λ (z : ℕ). u (n + t) * z) (put_other n c (A w) (B w) w t (λ x. ne (sym x)) (omega arith)),
        half-put n c (A u) (B u) u (A w) (B w) w lc,
      )

  pub gate2 : Hom d n put2 δ
  gate2 =
      record {
        resp = λ u w h s l.
            put_rel n t (λ x y z. Cong d x y) _ _ (put n c (A u) (B u) u) _ _ (put n c (A w) (B w) w) 0 0 u s (c'.resp u w h) (d'.resp u w h)
            (put_rel n c (λ x y z. Cong d x y) _ _ u _ _ w 0 0 u s (a.resp u w h) (b.resp u w h) (h s l));
        gain = gain;
        none = λ s l.
            put_rel n t (λ x y z. Cong d x 0) _ _ (put n c (A (λ s. 0)) (B (λ s. 0)) (λ s. 0)) 0 0 (λ s. 0) 0 0 (λ s. 0) s
            (cong_eq d c'.none)
            (cong_eq d d'.none)
            (put_rel n c (λ x y z. Cong d x 0) _ _ (λ s. 0) 0 0 (λ s. 0) 0 0 (λ s. 0) s
            (cong_eq d a.none)
            (cong_eq d b.none)
            (cong_refl d 0));
        none-gain = none;
        add = λ u w s l.
            put_rel n t (λ x y z. Cong d x (y + z))
            _ _ (put n c (A (λ s. u s + w s)) (B (λ s. u s + w s)) (λ s. u s + w s)) _ _ (put n c (A u) (B u) u) _ _ (put n c (A w) (B w) w) s
            (cong_eq d (c'.add u w))
            (cong_eq d (d'.add u w))
            (put_rel n c (λ x y z. Cong d x (y + z)) _ _ (λ s. u s + w s) _ _ u _ _ w s
            (cong_eq d (a.add u w))
            (cong_eq d (b.add u w))
            (cong_refl d (u s + w s)));
        law = λ u w. law_of d _ _ (u (n + c) * w c + u (n + t) * w t) (B u * A w + D u * C w) _ _ (half-put2 u w) (law u w);
      }

pub fourier : (e n q : ℕ) → q < n → Hom (suc e) n (λ u. put n q (e * u (n + q)) (u q) u) (λ u. e * (u q * u (n + q)))
fourier e n q l =
    gate1 (suc e) n q l (λ u. e * u (n + q)) (λ u. u q) (λ u. e * (u q * u (n + q)))
    (times (suc e) n e (λ u. u (n + q)) (at (suc e) n (n + q) (omega arith)))
    (at (suc e) n q (omega arith))
    (λ u w h. cong_mul-left e (cong_mul (h q (omega arith)) (h (n + q) (omega arith))))
    (cong_eq (suc e) (omega arith))
    (λ u w. law (u q) (u (n + q)) (w q) (w (n + q)))
  where
    law : (a b a' b' : ℕ) → Cong (suc e) (b * a' + e * ((a + a') * (b + b'))) (e * (a * b) + e * (a' * b') + a * (e * b'))
    law a b a' b' = record { p = 0; q = b * a'; eq = omega arith }

-- twice, and three times
pub fourier-twice : (e n q : ℕ) → q < n → Hom (suc e) n (λ u. put n q (e * u q) (e * u (n + q)) u) (λ u. 0)
fourier-twice e n q l =
    gate1 (suc e) n q l (λ u. e * u q) (λ u. e * u (n + q)) (λ u. 0)
    (times (suc e) n e (λ u. u q) (at (suc e) n q (omega arith)))
    (times (suc e) n e (λ u. u (n + q)) (at (suc e) n (n + q) (omega arith)))
    (λ u w h. cong_refl (suc e) 0)
    (cong_refl (suc e) 0)
    (λ u w. law (u (n + q)) (w q))
  where
    law : (b a' : ℕ) → Cong (suc e) (b * a' + 0) (0 + 0 + e * b * (e * a'))
    law b a' = record { p = e * (b * a'); q = b * a'; eq = omega arith }

pub fourier_thrice : (e n q : ℕ) → q < n → Hom (suc e) n (λ u. put n q (u (n + q)) (e * u q) u) (λ u. e * (u q * u (n + q)))
fourier_thrice e n q l =
    gate1 (suc e) n q l (λ u. u (n + q)) (λ u. e * u q) (λ u. e * (u q * u (n + q)))
    (at (suc e) n (n + q) (omega arith))
    (times (suc e) n e (λ u. u q) (at (suc e) n q (omega arith)))
    (λ u w h. cong_mul-left e (cong_mul (h q (omega arith)) (h (n + q) (omega arith))))
    (cong_eq (suc e) (omega arith))
    (λ u w. law (u q) (u (n + q)) (w q) (w (n + q)))
  where
    law : (a b a' b' : ℕ) → Cong (suc e) (b * a' + e * ((a + a') * (b + b'))) (e * (a * b) + e * (a' * b') + e * a * b')
    law a b a' b' = record { p = 0; q = b * a'; eq = omega arith }

zero-tri : (d k : ℕ) → Cong d (k * tri 0) 0
unfolding tri
zero-tri d k = cong_eq d (omega arith)

-- phase gate, SUM and CZ, each applied k times
pub phase-gate : (f n q k : ℕ) → q < n → Hom (suc (f + f)) n (λ u. put n q (u q) (u (n + q) + k * u q) u) (λ u. k * tri (u q))
phase-gate f n q k l =
    gate1 (suc (f + f)) n q l (λ u. u q) (λ u. u (n + q) + k * u q) (λ u. k * tri (u q))
    (at (suc (f + f)) n q (omega arith))
    (plus (suc (f + f)) n (λ u. u (n + q)) (λ u. k * u q) (at (suc (f + f)) n (n + q) (omega arith))
    (times (suc (f + f)) n k (λ u. u q) (at (suc (f + f)) n q (omega arith))))
    (λ u w h. cong_mul-left k (tri_cong f (h q (omega arith))))
    (zero-tri (suc (f + f)) k)
    (λ u w. cong_eq (suc (f + f)) (omega (arith, ap (λ (z : ℕ). k * z) (tri-add (u q) (w q)))))

pub multiplier : (d n q m w : ℕ) → q < n → Cong d (m * w) 1 → Hom d n (λ u. put n q (m * u q) (w * u (n + q)) u) (λ u. 0)
multiplier d n q m w l h =
    gate1 d n q l (λ u. m * u q) (λ u. w * u (n + q)) (λ u. 0)
    (times d n m (λ u. u q) (at d n q (omega arith)))
    (times d n w (λ u. u (n + q)) (at d n (n + q) (omega arith)))
    (λ u w h. cong_refl d 0)
    (cong_refl d 0)
    (λ u x.
    cong_trans (cong_trans (cong_eq d (omega arith)) (cong_sym (cong_mul-left (u (n + q) * x q) h))) (cong_eq d (omega arith)))

pub sum-gate : (e n c t k : ℕ) → c < n → t < n → ¬ (c ≡ t)
    → Hom (suc e) n (λ u. put n t (u t + k * u c) (u (n + t)) (put n c (u c) (u (n + c) + e * (k * u (n + t))) u)) (λ u. 0)
sum-gate e n c t k lc lt ne =
    gate2 (suc e) n c t lc lt ne (λ u. u c) (λ u. u (n + c) + e * (k * u (n + t))) (λ u. u t + k * u c) (λ u. u (n + t)) (λ u. 0)
    (at (suc e) n c (omega arith))
    (plus (suc e) n (λ u. u (n + c)) (λ u. e * (k * u (n + t))) (at (suc e) n (n + c) (omega arith))
    (times (suc e) n e (λ u. k * u (n + t)) (times (suc e) n k (λ u. u (n + t)) (at (suc e) n (n + t) (omega arith)))))
    (plus (suc e) n (λ u. u t) (λ u. k * u c) (at (suc e) n t (omega arith))
    (times (suc e) n k (λ u. u c) (at (suc e) n c (omega arith))))
    (at (suc e) n (n + t) (omega arith))
    (λ u w h. cong_refl (suc e) 0)
    (cong_refl (suc e) 0)
    (λ u w. law (u (n + c)) (w c) (u (n + t)) (w t))
  where
    law : (b a' y x' : ℕ) → Cong (suc e) (b * a' + y * x' + 0) (0 + 0 + ((b + e * (k * y)) * a' + y * (x' + k * a')))
    law b a' y x' = record { p = k * (y * a'); q = 0; eq = omega arith }

pub cz : (d n c t k : ℕ) → c < n → t < n → ¬ (c ≡ t)
    → Hom d n (λ u. put n t (u t) (u (n + t) + k * u c) (put n c (u c) (u (n + c) + k * u t) u)) (λ u. k * (u c * u t))
cz d n c t k lc lt ne =
    gate2 d n c t lc lt ne (λ u. u c) (λ u. u (n + c) + k * u t) (λ u. u t) (λ u. u (n + t) + k * u c) (λ u. k * (u c * u t))
    (at d n c (omega arith))
    (plus d n (λ u. u (n + c)) (λ u. k * u t) (at d n (n + c) (omega arith)) (times d n k (λ u. u t) (at d n t (omega arith))))
    (at d n t (omega arith))
    (plus d n (λ u. u (n + t)) (λ u. k * u c) (at d n (n + t) (omega arith)) (times d n k (λ u. u c) (at d n c (omega arith))))
    (λ u w h. cong_mul-left k (cong_mul (h c (omega arith)) (h t (omega arith))))
    (cong_eq d (omega arith))
    (λ u w. cong_eq d (law (u c) (u (n + c)) (u t) (u (n + t)) (w c) (w t)))
  where
    law : (a b x y a' x' : ℕ)
        → b * a' + y * x' + k * ((a + a') * (x + x')) ≡ k * (a * x) + k * (a' * x') + ((b + k * x) * a' + (y + k * a) * x')
    law a b x y a' x' = omega arith

pub swap-gate : (d n c t : ℕ) → c < n → t < n → ¬ (c ≡ t)
    → Hom d n (λ u. put n t (u c) (u (n + c)) (put n c (u t) (u (n + t)) u)) (λ u. 0)
swap-gate d n c t lc lt ne =
    gate2 d n c t lc lt ne (λ u. u t) (λ u. u (n + t)) (λ u. u c) (λ u. u (n + c)) (λ u. 0)
    (at d n t (omega arith))
    (at d n (n + t) (omega arith))
    (at d n c (omega arith))
    (at d n (n + c) (omega arith))
    (λ u w h. cong_refl d 0)
    (cong_refl d 0)
    (λ u w. cong_eq d (omega arith))

-- An error, or a whole frame: the phase gains a linear function of the powers.
pub character : (d n : ℕ) (A : (ℕ → ℕ) → ℕ) → Linear d n A → Hom d n (λ u. u) A
character d n A a =
    record {
      resp = λ u w h. h;
      gain = a.resp;
      none = λ s l. cong_refl d 0;
      none-gain = cong_eq d a.none;
      add = λ u w s l. cong_refl d (u s + w s);
      law = λ u w. cong_eq d (omega (arith, a.add u w));
    }
