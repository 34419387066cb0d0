-- Powers changed on one qudit or on two: what holds of them position by position, and the same by stores into a list.
-- Assumes nothing.
use mathlib.Core.Path.{◌≡◌, refl, sym, ap, ◌∙◌}
use mathlib.Core.List.{List}
use mathlib.Core.Logic.{◌≢◌}
use Prim.Native.Nat.{ℕ, ◌+◌, ◌*◌, ◌≤◌, ◌<◌}
use native.Mathlib.Decide.{ℕ_discrete}
use native.Mathlib.Omega.{arith}
use lib.ListN.{length, get_or, set, length-set}
use lib.Seq.{get_or-set_same, get_or-set_other, set-get_or}
use Rattle.congruence.proofs.Congruence.{Cong}
use Rattle.symplectic.proofs.Gates.{put, put_rel, put_x, put_z, put_other}
use Rattle.row.specs.Row.{x_of, z_of}
use Rattle.row_laws.proofs.Reading.{bytes}
use Rattle.operation.specs.Gate.{with_x, with_z}

-- Congruent changes of congruent powers.
pub put_cong : (n q : ℕ) {d a a' b b' : ℕ} (u u' : ℕ → ℕ) (s : ℕ) → Cong d a a' → Cong d b b' → Cong d (u s) (u' s)
    → Cong d (put n q a b u s) (put n q a' b' u' s)
put_cong n q {d} {a} {a'} {b} {b'} u u' s = put_rel n q (λ x y z. Cong d x y) a b u a' b' u' 0 0 u s

module _ {n q : ℕ} (l : q < n) where
  -- A fact of every power is one of X on q, of Z on q, and of the others.
  pub put-each : (P : ℕ → ℕ → Type 0) (a b : ℕ) (u : ℕ → ℕ) → P q a → P (n + q) b → ((s : ℕ) → s ≢ q → s ≢ n + q → P s (u s))
      → (s : ℕ) → P s (put n q a b u s)
  put-each P a b u x z other s = by (ℕ_discrete s q) (ℕ_discrete s (n + q))
    where
      by : Dec (s ≡ q) → Dec (s ≡ n + q) → P s (put n q a b u s)
      by (yes e) k = rw (e, put_x) x
      by (no e) (yes k) = rw (k, put_z n q a b u l) z
      by (no e) (no k) = rw (put_other n q a b u s e k) (other s e k)

  -- Nothing changed.
  pub put_self : (u : ℕ → ℕ) (s : ℕ) → put n q (u q) (u (n + q)) u s ≡ u s
  put_self u = put-each (λ s x. x ≡ u s) _ _ u refl refl (λ s e k. refl)

  -- The last change stays.
  pub put_again : (a b a' b' : ℕ) (u : ℕ → ℕ) (s : ℕ) → put n q a b (put n q a' b' u) s ≡ put n q a b u s
  put_again a b a' b' u =
      put-each (λ s x. x ≡ put n q a b u s) a b (put n q a' b' u)
      (sym (put_x n q a b u))
      (sym (put_z n q a b u l))
      (λ s e k. put_other n q a' b' u s e k ∙ sym (put_other n q a b u s e k))

  -- Both powers stored, or one of them.
  module _ (v : List ℕ) (room : 2 * n ≤ length v) where
    pub stored : (a b s : ℕ) → get_or (with_z n q b (with_x q a v)) s 0 ≡ put n q a b (bytes v) s
    stored a b =
        let x : q < length v = omega arith in
        let z : n + q < length (set v q a) = simp length-set (omega arith) in
        let ne : q ≢ n + q = λ e. omega arith in
        put-each (λ s y. get_or (set (set v q a) (n + q) b) s 0 ≡ y) a b (bytes v)
        (rw (get_or-set_other, get_or-set_same))
        (rw get_or-set_same)
        (λ s e k. rw (get_or-set_other, get_or-set_other))

    pub stored_x : (a s : ℕ) → get_or (with_x q a v) s 0 ≡ put n q a (z_of n v q) (bytes v) s
    stored_x a s =
        let ne : n + q ≢ q = λ e. omega arith in
        let same : set (set v q a) (n + q) (z_of n v q) ≡ set v q a =
        rw (← get_or-set_other v q (n + q) a 0 ne) (set-get_or (set v q a) (n + q) 0) in
        rw (← same) (stored a (z_of n v q) s)

    pub stored_z : (b s : ℕ) → get_or (with_z n q b v) s 0 ≡ put n q (x_of v q) b (bytes v) s
    stored_z b s = ap (λ (x : List ℕ). get_or (set x (n + q) b) s 0) (sym (set-get_or v q 0)) ∙ stored (x_of v q) b s

-- two qudits
pub record Apart (n c t : ℕ) : Type 0 where
  pub c-low : c < n
  pub t-low : t < n
  pub differ : c ≢ t

abbrev pub put_two : (n c t a b x y : ℕ) → (ℕ → ℕ) → ℕ → ℕ
put_two n c t a b x y u = put n t x y (put n c a b u)

module _ {n c t : ℕ} (two : Apart n c t) where
  -- the powers on t stay if those on c change
  pub apart_x : (a b : ℕ) (u : ℕ → ℕ) → put n c a b u t ≡ u t
  apart_x a b u = put_other n c a b u t (λ e. two.differ (sym e)) (λ e. omega (arith, two.t-low))

  pub apart_z : (a b : ℕ) (u : ℕ → ℕ) → put n c a b u (n + t) ≡ u (n + t)
  apart_z a b u = put_other n c a b u (n + t) (λ e. omega (arith, two.c-low)) (λ e. two.differ (omega arith))

  module _ (a b x y : ℕ) (u : ℕ → ℕ) where
    pub two_xc : put_two n c t a b x y u c ≡ a
    two_xc = put_other n t x y (put n c a b u) c two.differ (λ e. omega (arith, two.c-low)) ∙ put_x n c a b u

    pub two_zc : put_two n c t a b x y u (n + c) ≡ b
    two_zc =
        put_other n t x y (put n c a b u) (n + c) (λ e. omega (arith, two.t-low)) (λ e. two.differ (omega arith))
        ∙ put_z n c a b u two.c-low

    pub two_xt : put_two n c t a b x y u t ≡ x
    two_xt = put_x n t x y (put n c a b u)

    pub two_zt : put_two n c t a b x y u (n + t) ≡ y
    two_zt = put_z n t x y (put n c a b u) two.t-low

  pub two_again : (a b x y a' b' x' y' : ℕ) (u : ℕ → ℕ) (s : ℕ)
      → put_two n c t a b x y (put_two n c t a' b' x' y' u) s ≡ put_two n c t a b x y u s
  two_again a b x y a' b' x' y' u =
      put-each two.t-low (λ s z. put_two n c t a b x y p s ≡ z) x y (put n c a b u)
      (two_xt a b x y p)
      (two_zt a b x y p)
      (λ s i j.
      put_other n t x y (put n c a b p) s i j
      ∙ put-each two.c-low (λ s z. s ≢ t → s ≢ n + t → put n c a b p s ≡ z) a b u
      (λ i j. put_x n c a b p)
      (λ i j. put_z n c a b p two.c-low)
      (λ s k m i j. put_other n c a b p s k m ∙ put_other n t x' y' (put n c a' b' u) s i j ∙ put_other n c a' b' u s k m)
      s i j)
    where
      p : ℕ → ℕ
      p = put_two n c t a' b' x' y' u
