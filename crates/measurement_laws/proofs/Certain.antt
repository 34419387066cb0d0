-- In a valid tableau a certain product is Z on the qudit, the only member of the stabilizer set with those powers.
-- Assumes nothing.
use mathlib.Core.Path.{◌≡◌, refl, sym, ap, ◌∙◌}
use mathlib.Core.Logic.{◌↔◌}
use mathlib.Core.List.{List}
use Prim.Native.Nat.{ℕ, suc, ◌+◌, ◌*◌, ◌<◌}
use native.Mathlib.Omega.{arith}
use lib.ListN.{get_or}
use Rattle.congruence.proofs.Congruence.{Cong, cong_eq, cong_sym, cong_trans, cong_mul-left, small_cong}
use Rattle.stabilizer.proofs.Basis
use Rattle.stabilizer.proofs.Member.{member-certain, member-unique}
use Rattle.modular.specs.Modular.{neg}
use Rattle.modular.specs.Dimension.{Dimension}
use Rattle.row.specs.Row.{phase_of}
use Rattle.row.specs.Generators.{unit, z_with}
use Rattle.row.proofs.Fill.{row-power, row-phase}
use Rattle.row_laws.proofs.Reading.{bytes, reads_self, reads_cong, unique, neg_is}
use Rattle.validity.specs.Validity.{Valid}
use Rattle.measurement.specs.declared.Look.TheVariants.{Certain}
use Rattle.measurement.specs.Look.{destabilizer_power, weighted, look}
use Rattle.measurement_laws.specs.Stabilizers.{Stabilizes}
use Rattle.measurement_laws.specs.Measurement.{CertainIsZ, CertainExactly, OneMember}
use Rattle.validity_laws.proofs.View.{at-odd, invertible, row_of_lem, basis, reads_z}
use Rattle.measurement_laws.proofs.Combination.{signs, reads-weighted, stabilizes_row, stabilizes_member}
use Rattle.measurement_laws.proofs.Looks.{Commuting, commuting_of, Looks, free, certain, looks}

z_power : (n q r s : ℕ) → s < 2 * n → get_or (z_with n q r) s 0 ≡ unit (n + q) s
unfolding z_with
z_power n q r = row-power n (unit (n + q)) r

pub z_phase : (n q r : ℕ) → phase_of n (z_with n q r) ≡ r
unfolding z_with
z_phase n q r = row-phase n (unit (n + q)) r

-- −x settles x.
neg_settles : (e : ℕ) {x y : ℕ} → x < suc e → y < suc e → neg (suc e) x ≡ neg (suc e) y → x ≡ y
neg_settles e {x} {y} lx ly h =
    small_cong
    (cong_trans (twice x) (cong_trans (cong_mul-left e (cong_trans (cong_sym (neg_is e x)) (cong_trans (cong_eq _ h) (neg_is e y)))) (cong_sym (twice y))))
    lx
    ly
  where
    twice : (z : ℕ) → Cong (suc e) z (e * (e * z))
    twice z = record { p = e * z; q = z; eq = omega arith }

-- the phase of the weighted product
abbrev pub fixed : (d n : ℕ) → List ℕ → ℕ → ℕ
fixed d n t q = phase_of n (weighted d n t q)

module _ {e n : ℕ} (dim : Dimension (suc e)) {t : List ℕ} (ok : Valid (suc e) n t) (q : ℕ) (lq : q < n) where
  abbrev d : ℕ
  d = suc e

  pub weighted_z : Commuting n t q → weighted d n t q ≡ z_with n q (fixed d n t q)
  weighted_z h =
      let a = reads-weighted ok (omega arith) q in
      unique
      (reads_cong
      (λ s l. cong_sym (Basis.certain e n (omega (arith, dim.low)) (invertible dim) _ (basis ok) q lq (λ i li. cong_eq d (h i li)) s l))
      (cong_sym a.phase)
      a)
      (reads_z (omega (arith, dim.low)) n q (a.small (2 * n) (omega arith)))

  pub look-certain : Commuting n t q → look d n t q ≡ Certain (neg d (fixed d n t q))
  look-certain h = go (looks d n t q)
    where
      go : Looks d n t q → look d n t q ≡ Certain (neg d (fixed d n t q))
      go (free k p x) = absurd (p.power (h k p.number))
      go (certain c x) = x

  weighted_stabilizes : Stabilizes d n t (weighted d n t q)
  unfolding weighted
  weighted_stabilizes =
      record {
        exponents = destabilizer_power n t q;
        below = λ i l. (row_of_lem ok i (omega arith)).below q (omega arith);
        product_is = refl;
      }

module _ (f : ℕ) {n : ℕ} {t : List ℕ} (ok : Valid (suc (f + f)) n t) where
  abbrev odd : ℕ
  odd = suc (f + f)

  positive : 0 < odd
  positive = omega arith

  one : {v w : List ℕ} → Stabilizes odd n t v → Stabilizes odd n t w → ((s : ℕ) → s < 2 * n → get_or v s 0 ≡ get_or w s 0) → v ≡ w
  one {v} {w} sv sw same =
      let a = reads_self (stabilizes_row ok positive sv) in
      let b = reads_self (stabilizes_row ok positive sw) in
      let alike : (s : ℕ) → s < n + n → Cong odd (get_or v s 0) (get_or w s 0) = λ s l. cong_eq odd (same s (omega arith)) in
      unique
      (reads_cong alike
      (member-unique f n _ (basis ok) (signs n t) (bytes v) _ (bytes w) _ (stabilizes_member ok positive a sv) (stabilizes_member ok positive b sw) alike)
      a)
      b

  module _ (dim : Dimension odd) {q r : ℕ} (lq : q < n) (lr : r < odd) where
    member-looks : Stabilizes odd n t (z_with n q r) → look odd n t q ≡ Certain (neg odd r)
    member-looks s =
        let m = stabilizes_member ok positive (reads_z (omega (arith, dim.low)) n q lr) s in
        let h : Commuting n t q =
        λ i l.
        small_cong (member-certain (f + f) n _ (basis ok) (signs n t) q lq r m i l) ((row_of_lem ok (n + i) (omega arith)).below q (omega arith)) positive in
        let same : weighted odd n t q ≡ z_with n q r =
        one (weighted_stabilizes dim ok q lq) s
        (λ i l. ap (λ (v : List ℕ). get_or v i 0) (weighted_z dim ok q lq h) ∙ z_power n q _ i l ∙ sym (z_power n q r i l)) in
        look-certain dim ok q lq h ∙ ap (λ (x : ℕ). Certain (neg odd x)) (ap (phase_of n) same ∙ z_phase n q r)

    looks-member : look odd n t q ≡ Certain (neg odd r) → Stabilizes odd n t (z_with n q r)
    looks-member x = go (looks odd n t q)
      where
        go : Looks odd n t q → Stabilizes odd n t (z_with n q r)
        go (free k p y) = let z : ◌≡◌ {A = ℕ} 0 1 = cc in absurd (omega arith)
        go (certain c y) =
            let w = look-certain dim ok q lq c in
            let opposite : neg odd (fixed odd n t q) ≡ neg odd r = cc in
            let same : fixed odd n t q ≡ r = neg_settles (f + f) ((reads-weighted ok positive q).small (2 * n) (omega arith)) lr opposite in
            rw (← same, ← weighted_z dim ok q lq c) (weighted_stabilizes dim ok q lq)

pub certain-is_z : CertainIsZ
certain-is_z d n dim t ok q lq e =
    at-odd (λ z. Valid z n t → weighted z n t q ≡ z_with n q (phase_of n (weighted z n t q))) (λ f k v. weighted_z k v q lq (commuting_of n t q e)) dim ok

pub certain-exactly : CertainExactly
certain-exactly d n dim t ok q r lq lr =
    at-odd (λ z. Valid z n t → r < z → Stabilizes z n t (z_with n q r) ↔ (look z n t q ≡ Certain (neg z r)))
    (λ f k v l. (member-looks f v k lq l, looks-member f v k lq l))
    dim
    ok
    lr

pub one-member : OneMember
one-member d n dim t ok v w a b same =
    at-odd (λ z. Valid z n t → Stabilizes z n t v → Stabilizes z n t w → v ≡ w) (λ f k x y z. one f x y z same) dim ok a b
