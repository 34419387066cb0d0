-- The stabilizer set: the ordered products of powers of n rows. It is closed under the product, and for the stabilizers of a
-- valid tableau has at most one member with given powers. Assumes nothing.
use mathlib.Core.Path.{◌≡◌, sym, ◌∙◌, ap}
use Prim.Native.Nat.{ℕ, zero, suc, ◌+◌, ◌*◌, ◌<◌, ◌%◌}
use native.Mathlib.Omega.{arith}
use native.Mathlib.Decide.{ℕ_discrete}
use native.Mathlib.Nat.{mod-lt}
use Rattle.congruence.proofs.Congruence.{Cong, cong_refl, cong_eq, cong_sym, cong_trans, cong_add, cong_mul-left, cong_mod}
use Rattle.congruence.proofs.Sum.{sum, sum_congr, sum_cong, unit, unit-same, unit-other, sum-unit}
use Rattle.symplectic.proofs.Triangle.{tri}
use Rattle.symplectic.proofs.Pairing.{half, half-mul-left, half_cong, pair, pair_cong, pair→half, zed, pair-zed}
use Rattle.symplectic.proofs.Map.{Same}
use Rattle.stabilizer.proofs.Span.{none_left, sum-none}
use Rattle.stabilizer.proofs.Basis.{SymplecticBasis}
use Rattle.stabilizer.proofs.Product.{vec, phs, pair-vec, vec_cong, phs_cong, vec-none, phs-none, phs-unit, RowsCommute, vec-add, phs-add}

-- A property of rows, given by powers and phase, that is closed under the product.
pub record Closed (d n : ℕ) (P : (ℕ → ℕ) → ℕ → Type 0) : Type 0 where
  pub none : P (λ s. 0) 0
  pub mul : (u : ℕ → ℕ) (p : ℕ) (u' : ℕ → ℕ) (p' : ℕ) → P u p → P u' p' → P (λ s. u s + u' s) (p + p' + half n u u')
  pub resp : (u : ℕ → ℕ) (p : ℕ) (u' : ℕ → ℕ) (p' : ℕ) → Same d n u u' → Cong d p p' → P u p → P u' p'

pub closed_pow : (d n : ℕ) (P : (ℕ → ℕ) → ℕ → Type 0) → Closed d n P → (u : ℕ → ℕ) (p : ℕ) → P u p
    → (h : ℕ) → P (λ s. h * u s) (h * p + tri h * half n u u)
unfolding tri
closed_pow d n P cl u p m zero =
    cl.resp (λ s. 0) 0 (λ s. 0 * u s) (0 * p + 0 * half n u u) (λ s l. cong_eq d (omega arith)) (cong_eq d (omega arith)) cl.none
closed_pow d n P cl u p m (suc h) =
    cl.resp (λ s. h * u s + u s) (h * p + tri h * half n u u + p + half n (λ s. h * u s) u) (λ s. suc h * u s) (suc h * p + (tri h + h) * half n u u)
    (λ s l. cong_eq d (omega arith))
    (cong_eq d (omega (arith, half-mul-left n h u u)))
    (cl.mul (λ s. h * u s) (h * p + tri h * half n u u) u p (closed_pow d n P cl u p m h) m)

pub closed_prod : (d n : ℕ) (P : (ℕ → ℕ) → ℕ → Type 0) → Closed d n P → (g : ℕ → ℕ → ℕ) (r h : ℕ → ℕ) (k : ℕ)
    → ((i : ℕ) → i < k → P (g i) (r i))
    → P (vec g h k) (phs n g r h k)
unfolding phs sum
closed_prod d n P cl g r h zero m = cl.none
closed_prod d n P cl g r h (suc k) m =
    cl.mul (vec g h k) (phs n g r h k) (λ s. h k * g k s) (h k * r k + tri (h k) * half n (g k) (g k))
    (closed_prod d n P cl g r h k (λ i l. m i (omega arith)))
    (closed_pow d n P cl (g k) (r k) (m k (omega arith)) (h k))

-- Members of the set: some product of powers of all n rows has these powers and this phase.
pub record Member (d n : ℕ) (g : ℕ → ℕ → ℕ) (r : ℕ → ℕ) (u : ℕ → ℕ) (p : ℕ) : Type 0 where
  pub by : ℕ → ℕ
  pub powers : Same d n u (vec g by n)
  pub phase : Cong d p (phs n g r by n)

-- The exponents may be taken below d: the set has d to the n members.
pub member-small : (f n : ℕ) (g : ℕ → ℕ → ℕ) (r : ℕ → ℕ) (u : ℕ → ℕ) (p : ℕ) → Member (suc (f + f)) n g r u p
    → (h : ℕ → ℕ) × ((i : ℕ) → h i < suc (f + f)) × Same (suc (f + f)) n u (vec g h n) × Cong (suc (f + f)) p (phs n g r h n)
member-small f n g r u p m = (
  λ i. m.by i % suc (f + f),
  λ i. mod-lt (m.by i) (omega arith),
  λ s l.
      cong_trans (m.powers s l)
      (vec_cong (suc (f + f)) n g g m.by (λ i. m.by i % suc (f + f)) n (λ i li s ls. cong_refl (suc (f + f)) (g i s))
      (λ i li. cong_mod (suc (f + f)) (m.by i))
      s
      l),
  cong_trans m.phase (phs_cong f n g r m.by (λ i. m.by i % suc (f + f)) n (λ i l. cong_mod (suc (f + f)) (m.by i))),
)

-- The rows themselves are members.
pub member-row : (d n : ℕ) (g : ℕ → ℕ → ℕ) (r : ℕ → ℕ) (j : ℕ) → j < n → Member d n g r (g j) (r j)
member-row d n g r j l =
    record {
      by = unit j;
      powers = λ s ls. cong_eq d (sym (sum-unit n j (λ i. g i s) l));
      phase = cong_eq d (sym (phs-unit n g r j n l));
    }

-- Where the rows commute, the members are closed.
pub members-closed : (d n : ℕ) (g : ℕ → ℕ → ℕ) (r : ℕ → ℕ) → RowsCommute d n n g → Closed d n (Member d n g r)
members-closed d n g r cmt =
    record {
      none = record { by = λ i. 0; powers = λ s l. cong_eq d (sym (vec-none g n s)); phase = cong_eq d (sym (phs-none n g r n)) };
      mul = λ u p u' p' m m'.
          record {
            by = λ i. m.by i + m'.by i;
            powers = λ s l. cong_trans (cong_add (m.powers s l) (m'.powers s l)) (cong_eq d (sym (vec-add g m.by m'.by n s)));
            phase =
                cong_trans
                (cong_add (cong_add m.phase m'.phase) (half_cong n d u (vec g m.by n) u' (vec g m'.by n) m.powers m'.powers))
                (cong_sym (phs-add d n n g r cmt m.by m'.by n (omega arith)));
          };
      resp = λ u p u' p' cu cp m.
          record { by = m.by; powers = λ s l. cong_trans (cong_sym (cu s l)) (m.powers s l); phase = cong_trans (cong_sym cp) m.phase };
    }

-- The stabilizers of a valid tableau.
module _ (e n : ℕ) (v : ℕ → ℕ → ℕ) (ok : SymplecticBasis e n v) where
  abbrev stab : ℕ → ℕ → ℕ
  stab i = v (n + i)

  stabs-pair : (i j : ℕ) → i < n → j < n → Cong (suc e) (pair e n (stab i) (stab j)) 0
  stabs-pair i j li lj = ok.others (n + i) (n + j) (omega arith) (omega arith) (omega arith) (omega arith)

  pub stabs-commute : RowsCommute (suc e) n n stab
  stabs-commute i j li lj = pair→half e n (stab i) (stab j) (stabs-pair i j li lj)

  stab_destab : (i j : ℕ) → i < n → j < n → Cong (suc e) (pair e n (stab i) (v j)) (unit j i)
  stab_destab i j li lj = go (ℕ_discrete i j)
    where
      go : Dec (i ≡ j) → Cong (suc e) (pair e n (stab i) (v j)) (unit j i)
      go (yes q) =
          cong_trans (cong_eq (suc e) (ap (λ (z : ℕ). pair e n (stab i) (v z)) (sym q)))
          (cong_trans (ok.partners i li) (cong_eq (suc e) (sym (unit-same j i q))))
      go (no q) =
          cong_trans (ok.others (n + i) j (omega arith) (omega arith) (λ x. q (omega arith)) (omega arith))
          (cong_eq (suc e) (sym (unit-other j i q)))

  -- The exponents of a product are its pairings with the destabilizers.
  pub exponent : (h : ℕ → ℕ) (j : ℕ) → j < n → Cong (suc e) (pair e n (vec stab h n) (v j)) (h j)
  exponent h j lj =
      cong_trans (cong_eq (suc e) (pair-vec e n stab h n (v j)))
      (cong_trans
      (sum_cong (suc e) n (λ i. h i * pair e n (stab i) (v j)) (λ i. h i * unit j i)
      (λ i li. cong_mul-left (h i) (stab_destab i j li lj)))
      (cong_eq (suc e) (sum_congr n (λ i. h i * unit j i) (λ i. unit j i * h i) (λ i li. omega arith) ∙ sum-unit n j h lj)))

  module _ (r : ℕ → ℕ) where
    -- Every member commutes with every stabilizer.
    pub member-pair : (u : ℕ → ℕ) (p : ℕ) → Member (suc e) n stab r u p → (j : ℕ) → j < n → Cong (suc e) (pair e n u (stab j)) 0
    member-pair u p m j lj =
        cong_trans (pair_cong e n u (vec stab m.by n) (stab j) (stab j) m.powers (λ s l. cong_refl (suc e) (stab j s)))
        (cong_trans (cong_eq (suc e) (pair-vec e n stab m.by n (stab j)))
        (sum-none (suc e) n (λ i. m.by i * pair e n (stab i) (stab j)) (λ i li. none_left (m.by i) (stabs-pair i j li lj))))

    -- A measurement of q is certain exactly if the set has Z on q with some phase.
    pub member-certain : (q : ℕ) → q < n → (p : ℕ) → Member (suc e) n stab r (zed n q) p
        → (i : ℕ) → i < n → Cong (suc e) (v (n + i) q) 0
    member-certain q lq p m i l =
        cong_trans (cong_eq (suc e) (sym (pair-zed e n q lq (v (n + i))))) (member-pair (zed n q) p m i l)

-- There is one member with given powers: they settle the exponents.
pub member-unique : (f n : ℕ) (v : ℕ → ℕ → ℕ) → SymplecticBasis (f + f) n v → (r : ℕ → ℕ) (u : ℕ → ℕ) (p : ℕ) (u' : ℕ → ℕ) (p' : ℕ)
    → Member (suc (f + f)) n (λ i. v (n + i)) r u p
    → Member (suc (f + f)) n (λ i. v (n + i)) r u' p'
    → Same (suc (f + f)) n u u'
    → Cong (suc (f + f)) p p'
member-unique f n v ok r u p u' p' m m' same =
    cong_trans m.phase (cong_trans (phs_cong f n (λ i. v (n + i)) r m.by m'.by n alike) (cong_sym m'.phase))
  where
    alike : (i : ℕ) → i < n → Cong (suc (f + f)) (m.by i) (m'.by i)
    alike i l =
        cong_trans (cong_sym (exponent (f + f) n v ok m.by i l))
        (cong_trans
        (pair_cong (f + f) n (vec (λ i. v (n + i)) m.by n) (vec (λ i. v (n + i)) m'.by n) (v i) (v i)
        (λ s ls. cong_trans (cong_sym (m.powers s ls)) (cong_trans (same s ls) (m'.powers s ls)))
        (λ s ls. cong_refl (suc (f + f)) (v i s)))
        (exponent (f + f) n v ok m'.by i l))
