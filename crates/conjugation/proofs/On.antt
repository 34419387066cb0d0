-- Rows with known powers on one qudit, or on two: generators, their powers and products.
-- Assumes nothing.
use mathlib.Core.Path.{◌≡◌, refl, sym, ap, ◌∙◌}
use mathlib.Core.Logic.{◌≢◌}
use mathlib.Core.List.{List}
use Prim.Native.Nat.{ℕ, ◌+◌, ◌*◌, ◌<◌}
use native.Mathlib.Omega.{arith}
use borrow.Author.Tests.{eq-eqb, ne_eqb}
use Rattle.congruence.proofs.Congruence.{Cong, cong_refl, cong_eq}
use Rattle.symplectic.proofs.Triangle.{tri}
use Rattle.symplectic.proofs.Pairing.{half, half-none-left, half-none-right, half_congr}
use Rattle.symplectic.proofs.Gates.{put, put_rel, put_x, put_z, put_other, half-put}
use Rattle.row.specs.Row.{row_of, product, power}
use Rattle.row.proofs.Fill.{row-power, row-phase}
use Rattle.row.proofs.Laws.{unit_row}
use Rattle.row_laws.specs.Scalar.{none}
use Rattle.row_laws.proofs.Reading.{Reads, reads-means, reads_cong, reads_same, reads-product, reads-power}
use Rattle.row.specs.Generators.{unit, x_with, z_with}
use Rattle.conjugation.specs.Generators.{x_on, z_on}
use Rattle.conjugation.proofs.Put.{put_cong, put-each, put_self, Apart, put_two, apart_x, apart_z}

-- v has X power a and Z power b on q, elsewhere the powers u, and the phase r.
pub record On (d n q : ℕ) (u : ℕ → ℕ) (v : List ℕ) (a b r : ℕ) : Type 0 where
  pub reads : Reads d n v (put n q a b u) r

pub on_cong : {d n q : ℕ} {u : ℕ → ℕ} {v : List ℕ} {a a' b b' r r' : ℕ} → Cong d a a' → Cong d b b' → Cong d r r' → On d n q u v a b r
    → On d n q u v a' b' r'
on_cong {d} {n} {q} {u} ha hb hr x = record { reads = reads_cong (λ s k. put_cong n q u u s ha hb (cong_refl d _)) hr x.reads }

pub on-eq : {d n q : ℕ} {u : ℕ → ℕ} {v : List ℕ} {a a' b b' r r' : ℕ} → (a ≡ a') × (b ≡ b') × (r ≡ r') → On d n q u v a b r → On d n q u v a' b' r'
on-eq {d} (ea, eb, er) = on_cong (cong_eq d ea) (cong_eq d eb) (cong_eq d er)

module _ {n q : ℕ} (l : q < n) where
  -- The half pairing with such powers.
  pub half-to : (a b : ℕ) (u : ℕ → ℕ) → half n u (put n q a b none) ≡ u (n + q) * a
  half-to a b u =
      half_congr n u (put n q (u q) (u (n + q)) u) (put n q a b none) (put n q a b none) (λ s. sym (put_self l u s)) (λ s. refl)
      ∙ omega (arith, half-put n q (u q) (u (n + q)) u a b none l, half-none-right n u)

  pub half-from : (a b : ℕ) (u : ℕ → ℕ) → half n (put n q a b none) u ≡ b * u q
  half-from a b u =
      half_congr n (put n q a b none) (put n q a b none) u (put n q (u q) (u (n + q)) u) (λ s. refl) (λ s. sym (put_self l u s))
      ∙ omega (arith, half-put n q a b none (u q) (u (n + q)) u l, half-none-left n u)

  module _ {d : ℕ} (low : 0 < d) where
    -- A row times one with powers on q alone, where the first has none there.
    pub join : {u : ℕ → ℕ} {v w : List ℕ} {a b r y : ℕ} → Reads d n v u r → u q ≡ 0 → u (n + q) ≡ 0 → On d n q none w a b y
        → On d n q u (product d n v w) a b (r + y)
    join {u} {v} {w} {a} {b} {r} {y} x zx zz o =
        record {
          reads =
              reads_same
              (put-each l (λ s z. u s + put n q a b none s ≡ z) a b u
              (omega (arith, put_x n q a b none))
              (omega (arith, put_z n q a b none l))
              (λ s e k. omega (arith, put_other n q a b none s e k)))
              (cong_eq d (omega (arith, half-to a b u, ap (λ (z : ℕ). z * a) zz)))
              (reads-product low x o.reads);
        }

    pub product-on : {v w : List ℕ} {a b a' b' r y : ℕ} → On d n q none v a b r → On d n q none w a' b' y
        → On d n q none (product d n v w) (a + a') (b + b') (r + y + b * a')
    product-on {v} {w} {a} {b} {a'} {b'} {r} {y} x o =
        record {
          reads =
              reads_same
              (put-each l (λ s z. put n q a b none s + put n q a' b' none s ≡ z) (a + a') (b + b') none
              (omega (arith, put_x n q a b none, put_x n q a' b' none))
              (omega (arith, put_z n q a b none l, put_z n q a' b' none l))
              (λ s e k. omega (arith, put_other n q a b none s e k, put_other n q a' b' none s e k)))
              (cong_eq d (omega (arith, half-to a' b' (put n q a b none), ap (λ (z : ℕ). z * a') (put_z n q a b none l))))
              (reads-product low x.reads o.reads);
        }

    pub power-on : {v : List ℕ} {a b r : ℕ} (h : ℕ) → On d n q none v a b r → On d n q none (power d n h v) (h * a) (h * b) (h * r + tri h * (b * a))
    power-on {v} {a} {b} {r} h x =
        record {
          reads =
              reads_same
              (put-each l (λ s z. h * put n q a b none s ≡ z) (h * a) (h * b) none
              (ap (λ (z : ℕ). h * z) (put_x n q a b none))
              (ap (λ (z : ℕ). h * z) (put_z n q a b none l))
              (λ s e k. ap (λ (z : ℕ). h * z) (put_other n q a b none s e k) ∙ omega arith))
              (cong_eq d
              (ap (λ (z : ℕ). h * r + tri h * z) (half-to a b (put n q a b none) ∙ ap (λ (z : ℕ). z * a) (put_z n q a b none l))))
              (reads-power low h x.reads);
        }

-- A generator means a unit vector.
unit-same : (p s : ℕ) → s ≡ p → unit p s ≡ 1
unit-same p s e = rw (eq-eqb s p e)

unit-other : (p s : ℕ) → s ≢ p → unit p s ≡ 0
unit-other p s e = rw (ne_eqb s p e)

generator : {d : ℕ} (n p : ℕ) → 1 < d → Reads d n (row_of n (unit p) 0) (unit p) 0
generator {d} n p low =
    reads-means (unit_row d n p 0 low (omega arith))
    (record { powers = λ s k. cong_eq d (row-power n (unit p) 0 s (omega arith)); phase = cong_eq d (row-phase n (unit p) 0) })

module _ {d n q : ℕ} (low : 1 < d) (l : q < n) where
  pub x_on_lem : On d n q none (x_on n q) 1 0 0
  unfolding x_with
  x_on_lem =
      record {
        reads =
            reads_same
            (put-each l (λ s z. unit q s ≡ z) 1 0 none (unit-same q q refl) (unit-other q (n + q) (λ e. omega arith)) (λ s e k. unit-other q s e))
            (cong_refl d 0)
            (generator n q low);
      }

  pub z_on_lem : On d n q none (z_on n q) 0 1 0
  unfolding z_with
  z_on_lem =
      record {
        reads =
            reads_same
            (put-each l (λ s z. unit (n + q) s ≡ z) 0 1 none
            (unit-other (n + q) q (λ e. omega arith))
            (unit-same (n + q) (n + q) refl)
            (λ s e k. unit-other (n + q) s k))
            (cong_refl d 0)
            (generator n (n + q) low);
      }

  pub x_power : (h : ℕ) → On d n q none (power d n h (x_on n q)) h 0 0
  x_power h = on-eq (omega arith) (power-on l (omega arith) h x_on_lem)

  pub z_power : (h : ℕ) → On d n q none (power d n h (z_on n q)) 0 h 0
  z_power h = on-eq (omega arith) (power-on l (omega arith) h z_on_lem)

  pub xz_on : (a b : ℕ) → On d n q none (product d n (power d n a (x_on n q)) (power d n b (z_on n q))) a b 0
  xz_on a b = on-eq (omega arith) (product-on l (omega arith) (x_power a) (z_power b))

  -- the generators of other qudits
  away : (p : ℕ) → q ≢ p → n + q ≢ p → On d n q (unit p) (row_of n (unit p) 0) 0 0 0
  away p x z =
      record {
        reads =
            reads_same (put-each l (λ s y. unit p s ≡ y) 0 0 (unit p) (unit-other p q x) (unit-other p (n + q) z) (λ s e k. refl))
            (cong_refl d 0)
            (generator n p low);
      }

  pub x_away : {j : ℕ} → j < n → j ≢ q → On d n q (unit j) (x_on n j) 0 0 0
  unfolding x_with
  x_away k ne = away _ (λ e. omega arith) (λ e. omega arith)

  pub z_away : {j : ℕ} → j < n → j ≢ q → On d n q (unit (n + j)) (z_on n j) 0 0 0
  unfolding z_with
  z_away k ne = away _ (λ e. omega arith) (λ e. omega arith)

-- v has the powers a and b on c, x and y on t, elsewhere u, and the phase r.
pub record OnTwo (d n c t : ℕ) (u : ℕ → ℕ) (v : List ℕ) (a b x y r : ℕ) : Type 0 where
  pub reads : Reads d n v (put_two n c t a b x y u) r

pub two-eq : {d n c t : ℕ} {v : List ℕ} {u : ℕ → ℕ} {a a' b b' x x' y y' r r' : ℕ} → (a ≡ a') × (b ≡ b') × (x ≡ x') × (y ≡ y') × (r ≡ r')
    → OnTwo d n c t u v a b x y r → OnTwo d n c t u v a' b' x' y' r'
two-eq {d} {n} {c} {t} {u = u} (ea, eb, ex, ey, er) o =
    record {
      reads =
          reads_cong
          (λ s k. put_cong n t _ _ s (cong_eq d ex) (cong_eq d ey) (put_cong n c u u s (cong_eq d ea) (cong_eq d eb) (cong_refl d _)))
          (cong_eq d er)
          o.reads;
    }

module _ {d n c t : ℕ} (low : 1 < d) (two : Apart n c t) where
  of_rest : {v : List ℕ} {u : ℕ → ℕ} {a b r : ℕ} → u t ≡ 0 → u (n + t) ≡ 0 → On d n c u v a b r → OnTwo d n c t u v a b 0 0 r
  of_rest {v} {u} {a} {b} x z o =
      record {
        reads =
            reads_same
            (put-each two.t-low (λ s y. put n c a b u s ≡ y) 0 0 (put n c a b u) (apart_x two a b u ∙ x) (apart_z two a b u ∙ z) (λ s e k. refl))
            (cong_refl d _)
            o.reads;
      }

  -- powers on c alone, on t alone, on both
  pub of_c : {v : List ℕ} {a b r : ℕ} → On d n c none v a b r → OnTwo d n c t none v a b 0 0 r
  of_c = of_rest refl refl

  pub of_t : {v : List ℕ} {x y r : ℕ} → On d n t none v x y r → OnTwo d n c t none v 0 0 x y r
  of_t {v} {x} {y} o =
      record {
        reads =
            reads_same
            (λ s. put_rel n t (λ w w' w''. w ≡ w') x y none x y (put n c 0 0 none) 0 0 none s refl refl (sym (put_self two.c-low none s)))
            (cong_refl d _)
            o.reads;
      }

  pub of_both : {v w : List ℕ} {a b x y r r' : ℕ} → On d n c none v a b r → On d n t none w x y r'
      → OnTwo d n c t none (product d n v w) a b x y (r + r')
  of_both {a = a} {b = b} o o' =
      record { reads = (join two.t-low (omega arith) o.reads (apart_x two a b none) (apart_z two a b none) o').reads }

  -- the generators of other qudits
  pub x_apart : {j : ℕ} → j < n → j ≢ c → j ≢ t → OnTwo d n c t (unit j) (x_on n j) 0 0 0 0 0
  x_apart k x y =
      of_rest (unit-other _ t (λ e. y (sym e))) (unit-other _ (n + t) (λ e. omega arith)) (x_away low two.c-low k x)

  pub z_apart : {j : ℕ} → j < n → j ≢ c → j ≢ t → OnTwo d n c t (unit (n + j)) (z_on n j) 0 0 0 0 0
  z_apart k x y =
      of_rest (unit-other _ t (λ e. omega (arith, two.t-low))) (unit-other _ (n + t) (λ e. omega arith)) (z_away low two.c-low k x)
