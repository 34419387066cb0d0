-- Products of powers of stabilizers, and the stabilizer set of a valid tableau, as `stabilizer` has them.
-- Assumes nothing.
use mathlib.Core.Path.{◌≡◌}
use mathlib.Core.List.{List}
use Prim.Native.Nat.{ℕ, zero, suc, ◌+◌, ◌≤◌, ◌<◌}
use native.Mathlib.Nat.{le_refl}
use native.Mathlib.Omega.{arith}
use Rattle.congruence.proofs.Congruence.{Cong, cong_refl, cong_sym, cong_trans, small_cong}
use Rattle.congruence.proofs.Sum.{sum}
use Rattle.symplectic.proofs.Pairing.{pair_cong}
use Rattle.symplectic.proofs.Map.{Same}
use Rattle.stabilizer.proofs.Product.{vec, phs}
use Rattle.stabilizer.proofs.Member.{Member, member-small, exponent}
use Rattle.row.specs.Row.{Row}
use Rattle.row_laws.proofs.Reading.{Reads, reads-row, unique, reads_cong, reads_of, reads-scalar, reads-product, reads-power}
use Rattle.tableau.specs.Tableau.{row}
use Rattle.validity.specs.Validity.{Valid}
use Rattle.measurement.specs.Look.{destabilizer_power, combination, weighted}
use Rattle.measurement_laws.specs.Stabilizers.{Stabilizes}
use Rattle.measurement_laws.specs.Measurement.{AllDifferent}
use Rattle.validity_laws.proofs.View.{rows, phases, at-odd, reads_at, basis}

-- The products of powers of stabilizers that read as g with phases r.
module _ {d n : ℕ} (p : 0 < d) (t : List ℕ) (g : ℕ → ℕ → ℕ) (r : ℕ → ℕ) (each : (i : ℕ) → i < n → Reads d n (row n t (n + i)) (g i) (r i)) (h : ℕ → ℕ) where
  reads_first : (k : ℕ) → k ≤ n → Reads d n (combination d n t h k) (vec g h k) (phs n g r h k)
  unfolding combination sum phs
  reads_first zero l = reads-scalar d n 0 p
  reads_first (suc k) l = reads-product p (reads_first k (omega arith)) (reads-power p (h k) (each k (omega arith)))

  pub reads-combination : Reads d n (combination d n t h n) (vec g h n) (phs n g r h n)
  reads-combination = reads_first n (le_refl n)

-- the powers and the phase of stabilizer i
abbrev pub stabs : ℕ → List ℕ → ℕ → ℕ → ℕ
stabs n t i = rows n t (n + i)

abbrev pub signs : ℕ → List ℕ → ℕ → ℕ
signs n t i = phases n t (n + i)

module _ {d n : ℕ} {t : List ℕ} (ok : Valid d n t) (p : 0 < d) where
  pub reads-stabs : (h : ℕ → ℕ) → Reads d n (combination d n t h n) (vec (stabs n t) h n) (phs n (stabs n t) (signs n t) h n)
  reads-stabs = reads-combination p t (stabs n t) (signs n t) (λ i l. reads_at ok (n + i) (omega arith))

  pub reads-weighted : (q : ℕ)
      → Reads d n (weighted d n t q) (vec (stabs n t) (destabilizer_power n t q) n) (phs n (stabs n t) (signs n t) (destabilizer_power n t q) n)
  unfolding weighted
  reads-weighted q = reads-stabs (destabilizer_power n t q)

  pub stabilizes_row : {v : List ℕ} → Stabilizes d n t v → Row d n v
  stabilizes_row s = reads-row (reads_of s.product_is (reads-stabs s.exponents))

  pub stabilizes_member : {v : List ℕ} {u : ℕ → ℕ} {r : ℕ} → Reads d n v u r → Stabilizes d n t v → Member d n (stabs n t) (signs n t) u r
  stabilizes_member a s =
      let b = reads_of s.product_is (reads-stabs s.exponents) in
      record {
        by = s.exponents;
        powers = λ i l. cong_trans (cong_sym (a.powers i l)) (b.powers i l);
        phase = cong_trans (cong_sym a.phase) b.phase;
      }

-- The exponents of a member may be taken below d.
pub member_stabilizes : (f : ℕ) {n : ℕ} {t : List ℕ} → Valid (suc (f + f)) n t → {v : List ℕ} {u : ℕ → ℕ} {r : ℕ} → Reads (suc (f + f)) n v u r
    → Member (suc (f + f)) n (stabs n t) (signs n t) u r
    → Stabilizes (suc (f + f)) n t v
member_stabilizes f {n} {t} ok {u = u} {r = r} a m =
    let (h, small, powers, phase) = member-small f n (stabs n t) (signs n t) u r m in
    record {
      exponents = h;
      below = λ i l. small i;
      product_is = unique (reads_cong powers phase a) (reads-stabs ok (omega arith) h);
    }

-- A product settles its exponents: they are its pairings with the destabilizers.
module _ {e n : ℕ} {t : List ℕ} (ok : Valid (suc e) n t) (h h' : ℕ → ℕ) (same : combination (suc e) n t h n ≡ combination (suc e) n t h' n) where
  same-powers : Same (suc e) n (vec (stabs n t) h n) (vec (stabs n t) h' n)
  same-powers s l =
      cong_trans (cong_sym ((reads-stabs ok (omega arith) h).powers s l)) ((reads_of same (reads-stabs ok (omega arith) h')).powers s l)

  settled : (i : ℕ) → i < n → Cong (suc e) (h i) (h' i)
  settled i l =
      cong_trans (cong_sym (exponent e n (rows n t) (basis ok) h i l))
      (cong_trans
      (pair_cong e n (vec (stabs n t) h n) (vec (stabs n t) h' n) (rows n t i) (rows n t i) same-powers (λ s k. cong_refl (suc e) (rows n t i s)))
      (exponent e n (rows n t) (basis ok) h' i l))

pub all_different : AllDifferent
all_different d n dim t ok h h' low low' same i l =
    at-odd (λ z. Valid z n t → h i < z → h' i < z → combination z n t h n ≡ combination z n t h' n → h i ≡ h' i)
    (λ f k v a b c. small_cong (settled v h h' c i l) a b)
    dim
    ok
    (low i l)
    (low' i l)
    same
