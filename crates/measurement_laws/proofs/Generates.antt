-- The stabilizer set after a free measurement: what the old members that commute with Z on q and the measured row generate.
-- Assumes nothing.
use mathlib.Core.Logic.{inl, inr, ◌↔◌}
use mathlib.Core.List.{List}
use Prim.Native.Nat.{ℕ, suc, ◌+◌, ◌<◌}
use native.Mathlib.Omega.{arith}
use Rattle.congruence.proofs.Congruence.{Cong, cong_refl, cong_eq, cong_sym, cong_trans, small_cong}
use Rattle.symplectic.proofs.Pairing.{zed, pair-zed}
use Rattle.stabilizer.proofs.Product.{RowsCommute}
use Rattle.stabilizer.proofs.Member.{Closed, Member, stabs-commute, members-closed}
use Rattle.stabilizer.proofs.Collapse.{After, after-member, after_least, after-new, after-closed, new→after, after→new}
use Rattle.modular.specs.Modular.{neg}
use Rattle.row.specs.Row.{Row, phase_of, pairing}
use Rattle.row.specs.Generators.{z_with}
use Rattle.row_laws.proofs.Reading.{bytes, Reads, denotes, reads_self, reads-row, reads_cong, reads_of, reads_reduced, reads-product, unique, neg_small, pairing-small, pairing-means}
use Rattle.measurement.specs.Collapse.{collapse}
use Rattle.measurement_laws.specs.Stabilizers.{Stabilizes, Generated, holds, times, Remaining}
use Rattle.measurement_laws.specs.Measurement.{CollapseGenerates}
use Rattle.validity_laws.proofs.View.{at-odd, rows, basis, reads_z}
use Rattle.measurement_laws.proofs.Combination.{stabs, signs, stabilizes_row, stabilizes_member, member_stabilizes}
use Rattle.measurement_laws.proofs.Free.{FreeAt, free-at, number, inverted, inverts, measured-after, valid-after}

module _ (f : ℕ) {n : ℕ} {t : List ℕ} {q k : ℕ} (free : FreeAt (suc (f + f)) n t q k) (m : ℕ) where
  abbrev d : ℕ
  d = suc (f + f)

  abbrev new : List ℕ
  new = collapse d n q k m t

  -- what is generated, and the same as `stabilizer` has it
  abbrev Set : List ℕ → Type 0
  Set = Generated d n (Remaining d n t q m)

  abbrev Kept : (ℕ → ℕ) → ℕ → Type 0
  Kept = After d n (stabs n t) (signs n t) q (neg d m)

  positive : 0 < d
  positive = omega arith

  low : 1 < d
  low = omega (arith, free.dimension.low)

  commute : RowsCommute d n n (stabs n t)
  commute = stabs-commute (f + f) n (rows n t) (basis free.valid)

  left-closed : Closed d n Kept
  left-closed = after-closed d n (stabs n t) (signs n t) q (neg d m) commute free.qudit

  reads-measured : Reads d n (z_with n q (neg d m)) (zed n q) (neg d m)
  reads-measured = reads_z low n q (neg_small positive m)

  -- The pairing with Z on q reads off the X power on q.
  pairs_z : {v : List ℕ} {u : ℕ → ℕ} {r : ℕ} → Reads d n v u r → Cong d (pairing d n (z_with n q 0) v) (u q)
  pairs_z {u = u} a = cong_trans (pairing-means (denotes (reads_z low n q positive)) (denotes a)) (cong_eq d (pair-zed (f + f) n q free.qudit u))

  -- All rows with these powers and this phase are generated.
  abbrev All : (ℕ → ℕ) → ℕ → Type 0
  All u r = (v : List ℕ) → Reads d n v u r → Set v

  all_old : (u : ℕ → ℕ) (r : ℕ) → Member d n (stabs n t) (signs n t) u r → Cong d (u q) 0 → All u r
  all_old u r a h v x =
      holds (inl (member_stabilizes f free.valid x a, small_cong (cong_trans (pairs_z x) h) (pairing-small positive n _ _) positive))

  all_closed : Closed d n All
  all_closed =
      record {
        none = all_old (λ s. 0) 0 (members-closed d n (stabs n t) (signs n t) commute).none (cong_refl d 0);
        mul = λ u r u' r' a b v x.
            let y = reads_reduced n positive u r in
            let y' = reads_reduced n positive u' r' in
            rw (unique x (reads-product positive y y')) (times (a _ y) (b _ y'));
        resp = λ u r u' r' hu hr a v x. a v (reads_cong (λ s l. cong_sym (hu s l)) (cong_sym hr) x);
      }

  left_generated : (u : ℕ → ℕ) (r : ℕ) → Kept u r → All u r
  left_generated = after_least d n (stabs n t) (signs n t) q (neg d m) All all_closed all_old (λ v x. holds (inr (unique x reads-measured)))

  -- What is generated is a row that is left.
  left-row : {v : List ℕ} {u : ℕ → ℕ} {r : ℕ} → Reads d n v u r → Kept u r → Row d n v × Kept (bytes v) (phase_of n v)
  left-row {v} {u} {r} x a =
      (reads-row x, left-closed.resp u r (bytes v) (phase_of n v) (λ s l. cong_sym (x.powers s l)) (cong_sym x.phase) a)

  generated_left : {v : List ℕ} → Set v → Row d n v × Kept (bytes v) (phase_of n v)
  generated_left (holds {v = v} (inl (s, h))) =
      let x = reads_self (stabilizes_row free.valid positive s) in
      left-row x
      (after-member d n (stabs n t) (signs n t) q (neg d m) (bytes v) (phase_of n v) (stabilizes_member free.valid positive x s)
      (cong_trans (cong_sym (pairs_z x)) (cong_eq d h)))
  generated_left (holds (inr x)) = left-row (reads_of x reads-measured) (after-new d n (stabs n t) (signs n t) q (neg d m) commute)
  generated_left (times {v = v} {w = w} a b) =
      let (x, l) = generated_left a in
      let (y, l') = generated_left b in
      left-row (reads-product positive (reads_self x) (reads_self y))
      (left-closed.mul (bytes v) (phase_of n v) (bytes w) (phase_of n w) l l')

  new-left : (u : ℕ → ℕ) (r : ℕ) → Member d n (stabs n new) (signs n new) u r → Kept u r
  new-left =
      new→after f n (rows n t) (basis free.valid) (signs n t) q (neg d m) k (inverted free) _ (stabs n new) (signs n new) free.qudit
      (number free)
      (inverts free)
      (measured-after free m)

  left-new : (u : ℕ → ℕ) (r : ℕ) → Kept u r → Member d n (stabs n new) (signs n new) u r
  left-new =
      after→new f n (rows n t) (basis free.valid) (signs n t) q (neg d m) k (inverted free) _ (stabs n new) (signs n new) free.qudit
      (number free)
      (inverts free)
      (measured-after free m)

  new_generated : (v : List ℕ) → Stabilizes d n new v → Set v
  new_generated v s =
      let x = reads_self (stabilizes_row (valid-after free m) positive s) in
      left_generated (bytes v) (phase_of n v) (new-left (bytes v) (phase_of n v) (stabilizes_member (valid-after free m) positive x s)) v x

  generated_new : (v : List ℕ) → Set v → Stabilizes d n new v
  generated_new v g =
      let (x, a) = generated_left g in
      member_stabilizes f (valid-after free m) (reads_self x) (left-new (bytes v) (phase_of n v) a)

pub collapse_generates : CollapseGenerates
collapse_generates d n dim t ok q k m lq lm x v =
    at-odd (λ z. FreeAt z n t q k → Stabilizes z n (collapse z n q k m t) v ↔ Generated z n (Remaining z n t q m) v)
    (λ f i free. (new_generated f free m v, generated_new f free m v))
    dim
    (free-at dim ok lq x)
