-- The free measurement: the new stabilizer set is what the old members that commute with Z on q and the new row generate.
-- Assumes nothing.
use mathlib.Core.Path.{◌≡◌, ◌∙◌, ap}
use Prim.Native.Nat.{ℕ, suc, ◌+◌, ◌*◌, ◌<◌}
use native.Mathlib.Omega.{arith}
use native.Mathlib.Decide.{ℕ_discrete}
use Rattle.congruence.proofs.Congruence.{Cong, cong_refl, cong_eq, cong_sym, cong_trans, cong_add, cong_mul-left, cong_mul-right}
use Rattle.congruence.proofs.Sum.{sum, sum_congr, sum_cong, sum-add, sum-mul, pick, pick_yes, pick_no, unit, unit-same, unit-other, sum-unit}
use Rattle.symplectic.proofs.Triangle.{tri}
use Rattle.symplectic.proofs.Pairing.{half, half-add-left, half-add-right, half-mul-left, half-mul-right, half_cong, pair, pair_left, pair_cong, zed, half-zed, half-to-zed, pair-zed}
use Rattle.symplectic.proofs.Map.{Same}
use Rattle.stabilizer.proofs.Span.{none_left, sum-none}
use Rattle.stabilizer.proofs.Basis.{SymplecticBasis}
use Rattle.stabilizer.proofs.Kept.{Moved}
use Rattle.stabilizer.proofs.Product.{vec, phs, RowsCommute}
use Rattle.stabilizer.proofs.Member.{Closed, closed_pow, closed_prod, Member, member-row, members-closed, stabs-commute, member-pair, member-unique}

-- The products of the members that commute with Z on q with powers of the row (Z on q, phase c).
pub record After (d n : ℕ) (g : ℕ → ℕ → ℕ) (r : ℕ → ℕ) (q c : ℕ) (u : ℕ → ℕ) (p : ℕ) : Type 0 where
  pub base : ℕ → ℕ
  pub ph : ℕ
  pub times : ℕ
  pub member : Member d n g r base ph
  pub commutes : Cong d (base q) 0
  pub powers : Same d n u (λ s. base s + times * zed n q s)
  pub phase : Cong d p (ph + times * c)

-- The phase is the one that the rules of product and power give.
pub after_literal : (n q : ℕ) (base : ℕ → ℕ) (ph c h : ℕ)
    → ph + (h * c + tri h * half n (zed n q) (zed n q)) + half n base (λ s. h * zed n q s) ≡ ph + h * c
after_literal n q base ph c h =
    omega (
      arith,
      ap (λ (z : ℕ). tri h * z) (half-to-zed n q (zed n q)),
      half-mul-right n h base (zed n q),
      ap (λ (z : ℕ). h * z) (half-to-zed n q base),
    )

-- The half pairing of two such products.
half-after : (d n q : ℕ) → q < n → (x y : ℕ → ℕ) (a b : ℕ) → Cong d (y q) 0
    → Cong d (half n (λ s. x s + a * zed n q s) (λ s. y s + b * zed n q s)) (half n x y)
half-after d n q lq x y a b h =
    cong_trans
    (cong_eq d
    (half-add-left n x (λ s. a * zed n q s) (λ s. y s + b * zed n q s)
    ∙ omega (
      arith,
      half-add-right n x y (λ s. b * zed n q s),
      half-mul-right n b x (zed n q),
      ap (λ (z : ℕ). b * z) (half-to-zed n q x),
      half-mul-left n a (zed n q) (λ s. y s + b * zed n q s),
      ap (λ (z : ℕ). a * z) (half-zed n q lq (λ s. y s + b * zed n q s)),
      ap (λ (z : ℕ). a * (y q + b * z)) (unit-other (n + q) q (omega arith)),
    )))
    (cong_trans (cong_add (cong_refl d (half n x y)) (none_left a h)) (cong_eq d (omega arith)))

-- They are the least closed set that holds those members and that row.
module _ (d n : ℕ) (g : ℕ → ℕ → ℕ) (r : ℕ → ℕ) (q c : ℕ) where
  pub after-member : (u : ℕ → ℕ) (p : ℕ) → Member d n g r u p → Cong d (u q) 0 → After d n g r q c u p
  after-member u p m h =
      record {
        base = u;
        ph = p;
        times = 0;
        member = m;
        commutes = h;
        powers = λ s l. cong_eq d (omega arith);
        phase = cong_eq d (omega arith);
      }

  pub after_least : (P : (ℕ → ℕ) → ℕ → Type 0) → Closed d n P
      → ((u : ℕ → ℕ) (p : ℕ) → Member d n g r u p → Cong d (u q) 0 → P u p)
      → P (zed n q) c
      → (u : ℕ → ℕ) (p : ℕ) → After d n g r q c u p → P u p
  after_least P cl old new u p m =
      cl.resp (λ s. m.base s + m.times * zed n q s)
      (m.ph + (m.times * c + tri m.times * half n (zed n q) (zed n q)) + half n m.base (λ s. m.times * zed n q s))
      u
      p
      (λ s l. cong_sym (m.powers s l))
      (cong_trans (cong_eq d (after_literal n q m.base m.ph c m.times)) (cong_sym m.phase))
      (cl.mul m.base m.ph (λ s. m.times * zed n q s) (m.times * c + tri m.times * half n (zed n q) (zed n q))
      (old m.base m.ph m.member m.commutes)
      (closed_pow d n P cl (zed n q) c new m.times))

  module _ (cmt : RowsCommute d n n g) where
    abbrev members : Closed d n (Member d n g r)
    members = members-closed d n g r cmt

    pub after-new : After d n g r q c (zed n q) c
    after-new =
        record {
          base = λ s. 0;
          ph = 0;
          times = 1;
          member = members.none;
          commutes = cong_refl d 0;
          powers = λ s l. cong_eq d (omega arith);
          phase = cong_eq d (omega arith);
        }

    pub after-closed : q < n → Closed d n (After d n g r q c)
    after-closed lq =
        record {
          none = after-member (λ s. 0) 0 members.none (cong_refl d 0);
          mul = λ u p u' p' m m'.
              record {
                base = λ s. m.base s + m'.base s;
                ph = m.ph + m'.ph + half n m.base m'.base;
                times = m.times + m'.times;
                member = members.mul m.base m.ph m'.base m'.ph m.member m'.member;
                commutes = cong_add m.commutes m'.commutes;
                powers = λ s l. cong_trans (cong_add (m.powers s l) (m'.powers s l)) (cong_eq d (omega arith));
                phase =
                    cong_trans
                    (cong_add (cong_add m.phase m'.phase)
                    (cong_trans
                    (half_cong n d u (λ s. m.base s + m.times * zed n q s) u' (λ s. m'.base s + m'.times * zed n q s) m.powers m'.powers)
                    (half-after d n q lq m.base m'.base m.times m'.times m'.commutes)))
                    (cong_eq d (omega arith));
              };
          resp = λ u p u' p' cu cp m.
              record {
                base = m.base;
                ph = m.ph;
                times = m.times;
                member = m.member;
                commutes = m.commutes;
                powers = λ s l. cong_trans (cong_sym (cu s l)) (m.powers s l);
                phase = cong_trans (cong_sym cp) m.phase;
              };
        }

cong_cancel : {d x y a b : ℕ} → Cong d (x + a) (y + b) → Cong d a b → Cong d x y
cong_cancel h k = record { p = h.p + k.q; q = h.q + k.p; eq = omega arith }

-- What has an inverse may be divided by.
cong_divide : (d x y a w : ℕ) → Cong d (a * w) 1 → Cong d (x * a) (y * a) → Cong d x y
cong_divide d x y a w hw h = cong_trans (cong_sym (whole x)) (cong_trans (cong_mul-right w h) (whole y))
  where
    whole : (z : ℕ) → Cong d (z * a * w) z
    whole z = cong_trans (cong_eq d (omega arith)) (cong_trans (cong_mul-left z hw) (cong_eq d (omega arith)))

-- What the free measurement makes of the stabilizers g, r: row k is Z on q with the phase c, any other row j is row j times row k to
-- the power t j, which clears its X power on q.
pub record Measured (d n : ℕ) (g : ℕ → ℕ → ℕ) (r : ℕ → ℕ) (q c k : ℕ) (t : ℕ → ℕ) (g' : ℕ → ℕ → ℕ) (r' : ℕ → ℕ) : Type 0 where
  pub clears : (j : ℕ) → j < n → Cong d (g j q + t j * g k q) 0
  pub new-powers : Same d n (g' k) (zed n q)
  pub new-phase : Cong d (r' k) c
  pub row-powers : (j : ℕ) → j < n → ¬ (j ≡ k) → Same d n (g' j) (λ s. g j s + t j * g k s)
  pub row-phase : (j : ℕ) → j < n → ¬ (j ≡ k)
      → Cong d (r' j) (r j + (t j * r k + tri (t j) * half n (g k) (g k)) + half n (g j) (λ s. t j * g k s))

-- For the powers, the rows of a tableau say it.
pub measured : (d n : ℕ) (v : ℕ → ℕ → ℕ) (r : ℕ → ℕ) (q c k w : ℕ) (t : ℕ → ℕ) (v' : ℕ → ℕ → ℕ) (r' : ℕ → ℕ) → k < n
    → Moved d n v q k w t v'
    → Cong d (r' k) c
    → ((j : ℕ) → j < n → ¬ (j ≡ k)
    → Cong d (r' j) (r j + (t (n + j) * r k + tri (t (n + j)) * half n (v (n + k)) (v (n + k))) + half n (v (n + j)) (λ s. t (n + j) * v (n + k) s)))
    → Measured d n (λ i. v (n + i)) r q c k (λ i. t (n + i)) (λ i. v' (n + i)) r'
measured d n v r q c k w t v' r' lk mv new row =
    record {
      clears = λ j l. mv.clears (n + j) (omega arith);
      new-powers = mv.stab-k;
      new-phase = new;
      row-powers = λ j l x. mv.row (n + j) (omega arith) (λ y. x (omega arith)) (omega arith);
      row-phase = row;
    }

module _ (f n : ℕ) (v : ℕ → ℕ → ℕ) (ok : SymplecticBasis (f + f) n v) (r : ℕ → ℕ) (q c k w : ℕ) (t : ℕ → ℕ) (g' : ℕ → ℕ → ℕ) (r' : ℕ → ℕ) (lq : q < n) (lk : k < n) (hw : Cong (suc (f + f)) (v (n + k) q * w) 1) (made : Measured (suc (f + f)) n (λ i. v (n + i)) r q c k t g' r') where
  abbrev d : ℕ
  d = suc (f + f)

  abbrev g : ℕ → ℕ → ℕ
  g i = v (n + i)

  cmt : RowsCommute d n n g
  cmt = stabs-commute (f + f) n v ok

  abbrev old : Closed d n (Member d n g r)
  old = members-closed d n g r cmt

  abbrev closed : Closed d n (After d n g r q c)
  closed = after-closed d n g r q c cmt lq

  -- Each new row is such a product.
  after-row : (j : ℕ) → j < n → After d n g r q c (g' j) (r' j)
  after-row j lj = go (ℕ_discrete j k)
    where
      go : Dec (j ≡ k) → After d n g r q c (g' j) (r' j)
      go (yes x) =
          closed.resp (zed n q) c (g' j) (r' j)
          (λ s l. cong_sym (cong_trans (cong_eq d (ap (λ (z : ℕ). g' z s) x)) (made.new-powers s l)))
          (cong_sym (cong_trans (cong_eq d (ap r' x)) made.new-phase))
          (after-new d n g r q c cmt)
      go (no x) =
          closed.resp (λ s. g j s + t j * g k s) (r j + (t j * r k + tri (t j) * half n (g k) (g k)) + half n (g j) (λ s. t j * g k s)) (g' j) (r' j)
          (λ s l. cong_sym (made.row-powers j lj x s l))
          (cong_sym (made.row-phase j lj x))
          (after-member d n g r q c (λ s. g j s + t j * g k s) (r j + (t j * r k + tri (t j) * half n (g k) (g k)) + half n (g j) (λ s. t j * g k s))
          (old.mul (g j) (r j) (λ s. t j * g k s) (t j * r k + tri (t j) * half n (g k) (g k)) (member-row d n g r j lj)
          (closed_pow d n (Member d n g r) old (g k) (r k) (member-row d n g r k lk) (t j)))
          (made.clears j lj))

  -- Every new member is such a product.
  pub new→after : (u : ℕ → ℕ) (p : ℕ) → Member d n g' r' u p → After d n g r q c u p
  new→after u p m =
      closed.resp (vec g' m.by n) (phs n g' r' m.by n) u p (λ s l. cong_sym (m.powers s l)) (cong_sym m.phase)
      (closed_prod d n (After d n g r q c) closed g' r' m.by n after-row)

  -- There is one such product with given powers: the pairing with row k settles the power of the new row.
  after-unique : (u : ℕ → ℕ) (p : ℕ) (u' : ℕ → ℕ) (p' : ℕ) → After d n g r q c u p → After d n g r q c u' p' → Same d n u u' → Cong d p p'
  after-unique u p u' p' m m' same =
      cong_trans m.phase
      (cong_trans
      (cong_add (member-unique f n v ok r m.base m.ph m'.base m'.ph m.member m'.member bases) (cong_mul-right c alike))
      (cong_sym m'.phase))
    where
      sums : (s : ℕ) → s < n + n → Cong d (m.base s + m.times * zed n q s) (m'.base s + m'.times * zed n q s)
      sums s l = cong_trans (cong_sym (m.powers s l)) (cong_trans (same s l) (m'.powers s l))

      pairing : (x : ℕ → ℕ) (p : ℕ) (b : ℕ) → Member d n g r x p → Cong d (pair (f + f) n (λ s. x s + b * zed n q s) (g k)) (b * g k q)
      pairing x p b mb =
          cong_trans (cong_eq d (pair_left (f + f) n x (zed n q) (g k) b))
          (cong_trans
          (cong_add (member-pair (f + f) n v ok r x p mb k lk) (cong_eq d (ap (λ (z : ℕ). b * z) (pair-zed (f + f) n q lq (g k)))))
          (cong_eq d (omega arith)))

      alike : Cong d m.times m'.times
      alike =
          cong_divide d m.times m'.times (g k q) w hw
          (cong_trans (cong_sym (pairing m.base m.ph m.times m.member))
          (cong_trans
          (pair_cong (f + f) n (λ s. m.base s + m.times * zed n q s) (λ s. m'.base s + m'.times * zed n q s) (g k) (g k) sums (λ s l. cong_refl d (g k s)))
          (pairing m'.base m'.ph m'.times m'.member)))

      bases : (s : ℕ) → s < n + n → Cong d (m.base s) (m'.base s)
      bases s l = cong_cancel (sums s l) (cong_mul-right (zed n q s) alike)

  -- Every such product is a new member: the exponents stay, but for row k.
  module _ (u : ℕ → ℕ) (p : ℕ) (m : After d n g r q c u p) where
    abbrev h : ℕ → ℕ
    h = m.member.by

    by' : ℕ → ℕ
    by' j = pick (ℕ_discrete j k) m.times (h j)

    -- Row k is taken out of itself.
    gone : Cong d (1 + t k) 0
    gone = cong_divide d (1 + t k) 0 (g k q) w hw (cong_trans (cong_eq d (omega arith)) (cong_trans (made.clears k lk) (cong_eq d (omega arith))))

    term : (s : ℕ) → s < n + n → (j : ℕ) → j < n
        → Cong d (by' j * g' j s) (h j * g j s + g k s * (h j * t j) + unit k j * (m.times * zed n q s))
    unfolding by'
    term s ls j lj = go (ℕ_discrete j k)
      where
        go : Dec (j ≡ k) → Cong d (by' j * g' j s) (h j * g j s + g k s * (h j * t j) + unit k j * (m.times * zed n q s))
        go (yes x) =
            cong_trans (cong_eq d (ap (λ (z : ℕ). z * g' j s) (pick_yes (ℕ_discrete j k) m.times (h j) x)))
            (cong_trans (cong_mul-left m.times (cong_trans (cong_eq d (ap (λ (z : ℕ). g' z s) x)) (made.new-powers s ls)))
            (cong_trans (cong_eq d (omega arith))
            (cong_trans (cong_add (cong_sym (none_left (h j * g k s) gone)) (cong_refl d (m.times * zed n q s)))
            (cong_eq d
            (omega (
              arith,
              ap (λ (z : ℕ). z * (m.times * zed n q s)) (unit-same k j x),
              ap (λ (z : ℕ). h j * g k s * t z) x,
              ap (λ (z : ℕ). h j * g z s) x,
            ))))))
        go (no x) =
            cong_trans (cong_eq d (ap (λ (z : ℕ). z * g' j s) (pick_no (ℕ_discrete j k) m.times (h j) x)))
            (cong_trans (cong_mul-left (h j) (made.row-powers j lj x s ls))
            (cong_eq d (omega (arith, ap (λ (z : ℕ). z * (m.times * zed n q s)) (unit-other k j x)))))

    total : Cong d (sum n (λ j. h j * t j)) 0
    total =
        cong_divide d (sum n (λ j. h j * t j)) 0 (g k q) w hw
        (cong_cancel {a = vec g h n q} {b = 0}
        (cong_trans
        (cong_eq d
        (omega (
          arith,
          sum-mul n (g k q) (λ j. h j * t j),
          sum-add n (λ j. h j * g j q) (λ j. g k q * (h j * t j)),
          sum_congr n (λ j. h j * (g j q + t j * g k q)) (λ j. h j * g j q + g k q * (h j * t j)) (λ j lj. omega arith),
        )))
        (cong_trans (sum-none d n (λ j. h j * (g j q + t j * g k q)) (λ j lj. none_left (h j) (made.clears j lj))) (cong_eq d (omega arith))))
        (cong_trans (cong_sym (m.member.powers q (omega arith))) m.commutes))

    new-vec : Same d n (vec g' by' n) (λ s. m.base s + m.times * zed n q s)
    new-vec s l =
        cong_trans
        (sum_cong d n (λ j. by' j * g' j s) (λ j. h j * g j s + g k s * (h j * t j) + unit k j * (m.times * zed n q s)) (term s l))
        (cong_trans
        (cong_eq d
        (sum-add n (λ j. h j * g j s + g k s * (h j * t j)) (λ j. unit k j * (m.times * zed n q s))
        ∙ omega (
          arith,
          sum-add n (λ j. h j * g j s) (λ j. g k s * (h j * t j)),
          sum-mul n (g k s) (λ j. h j * t j),
          sum-unit n k (λ j. m.times * zed n q s) lk,
        )))
        (cong_trans
        (cong_add (cong_add (cong_sym (m.member.powers s l)) (none_left (g k s) total)) (cong_refl d (m.times * zed n q s)))
        (cong_eq d (omega arith))))

    new-powers : Same d n u (vec g' by' n)
    new-powers s l = cong_trans (m.powers s l) (cong_sym (new-vec s l))

    pub after→new : Member d n g' r' u p
    after→new =
        record {
          by = by';
          powers = new-powers;
          phase =
              after-unique u p (vec g' by' n) (phs n g' r' by' n) m
              (new→after (vec g' by' n) (phs n g' r' by' n)
              (record { by = by'; powers = λ s l. cong_refl d (vec g' by' n s); phase = cong_refl d (phs n g' r' by' n) }))
              new-powers;
        }
