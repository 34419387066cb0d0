-- A row is the product that it means, and so a map of rows that keeps products is settled by ω and the generators.
-- Assumes nothing.
use mathlib.Core.Path.{◌≡◌, refl, sym, ap₂, ◌∙◌}
use mathlib.Core.List.{List}
use Prim.Native.Nat.{ℕ, zero, suc, ◌+◌, ◌≤◌, ◌<◌}
use native.Mathlib.Nat.{add-zero, le_refl}
use native.Mathlib.Numerals.{add-one}
use native.Mathlib.Omega.{arith}
use Rattle.congruence.proofs.Congruence.{cong_refl, cong_eq}
use Rattle.symplectic.proofs.Gates.{put, put_other}
use Rattle.modular.specs.Dimension.{Dimension}
use Rattle.row.specs.Row.{Row, x_of, z_of, phase_of, product, power}
use Rattle.row.proofs.Laws.{product-row, power-row}
use Rattle.row_laws.specs.Scalar.{none, scalar}
use Rattle.row_laws.proofs.Reading.{bytes, Reads, reads_self, reads-row, unique, reads_cong, reads-phase, reads-scalar}
use Rattle.row_laws.proofs.Laws.{power_zero, power-one, powers-add}
use Rattle.conjugation.specs.Generators.{x_on, z_on, spelled}
use Rattle.conjugation.specs.Conjugation.{Homomorphism, RowSpelled, GateDetermined}
use Rattle.conjugation.proofs.Put.{put-each}
use Rattle.conjugation.proofs.On.{join, x_on_lem, z_on_lem, xz_on}
use Rattle.conjugation.proofs.Tables.{gate_conjugates}

-- the powers u on the first k qudits
unfoldable first : ℕ → (ℕ → ℕ) → ℕ → ℕ → ℕ
first n u zero = none
first n u (suc k) = put n k (u k) (u (n + k)) (first n u k)

module _ (n : ℕ) (u : ℕ → ℕ) where
  first_not_lem : (k q : ℕ) → k ≤ q → q < n → (first n u k q ≡ 0) × (first n u k (n + q) ≡ 0)
  unfolding first
  first_not_lem zero q l lq = (refl, refl)
  first_not_lem (suc k) q l lq =
      let (x, z) = first_not_lem k q (omega arith) lq in (
        put_other n k _ _ (first n u k) q (λ e. omega arith) (λ e. omega arith) ∙ x,
        put_other n k _ _ (first n u k) (n + q) (λ e. omega arith) (λ e. omega arith) ∙ z,
      )

  first-is : (k : ℕ) → k ≤ n → (s : ℕ) → s < n + k → (s < n → s < k) → first n u k s ≡ u s
  unfolding first
  first-is zero l s a b = absurd (omega (arith, b (omega arith)))
  first-is (suc k) l s a b =
      put-each l (λ s y. s < n + suc k → (s < n → s < suc k) → y ≡ u s) _ _ (first n u k)
      (λ a b. refl)
      (λ a b. refl)
      (λ s e e' a b. first-is k (omega arith) s (omega arith) (λ c. omega (arith, b c)))
      s a b

module _ {d n : ℕ} {v : List ℕ} (low : 1 < d) (row : Row d n v) where
  spelled-first : (k : ℕ) → k ≤ n → Reads d n (spelled d n v k) (first n (bytes v) k) (phase_of n v)
  unfolding spelled first
  spelled-first zero l = reads-scalar d n (phase_of n v) (row.below _ (omega arith))
  spelled-first (suc k) l =
      let (x, z) = first_not_lem n (bytes v) k k (le_refl k) l in
      reads-phase (cong_eq d (add-zero _)) (join l (omega arith) (spelled-first k (omega arith)) x z (xz_on low l (x_of v k) (z_of n v k))).reads

pub row-spelled : RowSpelled
row-spelled d n low v row =
    unique
    (reads_cong (λ s l. cong_eq d (first-is n (bytes v) n (le_refl n) s l (λ a. a))) (cong_refl d _) (spelled-first low row n (le_refl n)))
    (reads_self row)

-- Two such maps that agree on ω and the generators.
module _ {d n : ℕ} (dim : Dimension d) {f g : List ℕ → List ℕ} (f-hom : Homomorphism d n f) (g-hom : Homomorphism d n g)
    (scalars : (r : ℕ) → r < d → f (scalar n r) ≡ g (scalar n r))
    (on-x : (j : ℕ) → j < n → f (x_on n j) ≡ g (x_on n j))
    (on-z : (j : ℕ) → j < n → f (z_on n j) ≡ g (z_on n j)) where
  low : 1 < d
  low = omega (arith, dim.low)

  positive : 0 < d
  positive = omega (arith, dim.low)

  agree-product : {v w : List ℕ} → Row d n v → Row d n w → f v ≡ g v → f w ≡ g w → f (product d n v w) ≡ g (product d n v w)
  agree-product {v} {w} x y a b = f-hom.products v w x y ∙ ap₂ (product d n) a b ∙ sym (g-hom.products v w x y)

  agree-power : {v : List ℕ} (h : ℕ) → Row d n v → f v ≡ g v → f (power d n h v) ≡ g (power d n h v)
  agree-power {v} zero x a = rw (power_zero d n positive v) (scalars 0 positive)
  agree-power {v} (suc h) x a =
      let next : power d n (suc h) v ≡ product d n (power d n h v) v =
      rw (← add-one h, ← powers-add d n positive h 1 v, power-one d n v x) in
      rw next (agree-product (power-row d n h v positive) x (agree-power h x a) a)

  agree-spelled : {v : List ℕ} → Row d n v → (k : ℕ) → k ≤ n → f (spelled d n v k) ≡ g (spelled d n v k)
  unfolding spelled
  agree-spelled row zero l = scalars _ (row.below _ (omega arith))
  agree-spelled {v} row (suc k) l =
      agree-product (reads-row (spelled-first low row k (omega arith))) (product-row d n _ _ positive) (agree-spelled row k (omega arith))
      (agree-product (power-row d n (x_of v k) _ positive) (power-row d n (z_of n v k) _ positive)
      (agree-power (x_of v k) (reads-row (x_on_lem low l).reads) (on-x k l))
      (agree-power (z_of n v k) (reads-row (z_on_lem low l).reads) (on-z k l)))

  agree : (v : List ℕ) → Row d n v → f v ≡ g v
  agree v row = rw (← row-spelled d n low v row) (agree-spelled row n (le_refl n))

pub gate_determined : GateDetermined
gate_determined d n dim op h f f-hom f-follows =
    let (hom, follows) = gate_conjugates d n dim op h in
    agree dim f-hom hom
    (λ r l. f-follows.scalars r l ∙ sym (follows.scalars r l))
    (λ j l. f-follows.on_x j l ∙ sym (follows.on_x j l))
    (λ j l. f-follows.on_z j l ∙ sym (follows.on_z j l))
