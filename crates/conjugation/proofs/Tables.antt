-- A gate sends ω and the generators where the published tables say.
-- Assumes nothing.
use mathlib.Core.Path.{◌≡◌, refl, ap, ◌∙◌}
use mathlib.Core.Logic.{◌≢◌}
use mathlib.Core.Bool.{Bool, true, false, cond, and-eq-true_iff}
use mathlib.Core.List.{List}
use Prim.Native.Nat.{ℕ, zero, suc, pred, ◌+◌, ◌*◌, ◌<◌}
use native.Mathlib.Nat.{zero-add}
use native.Mathlib.Decide.{ℕ_discrete}
use native.Mathlib.Omega.{arith}
use lib.Dec.{eqb}
use borrow.Author.Tests.{eq-eqb, ne_eqb}
use Rattle.congruence.proofs.Congruence.{Cong, cong_refl, cong_eq, cong_trans, cong_add}
use Rattle.symplectic.proofs.Triangle.{tri}
use Rattle.symplectic.proofs.Gates.{put, put_x, put_z}
use Rattle.modular.specs.Modular.{neg}
use Rattle.modular.specs.Dimension.{inverse, Dimension}
use Rattle.row.specs.Row.{power}
use Rattle.row_laws.specs.Scalar.{none, scalar}
use Rattle.row_laws.proofs.Reading.{Reads, reads-row, unique, reads_cong, reads-scalar, neg_is}
use Rattle.operation.specs.declared.Operation.{Operation}
use Rattle.operation.specs.declared.Operation.TheVariants.{Fourier, PhaseGate, Sum, Cz, Swap, Multiplier, Measure, Reset, Correct}
use Rattle.operation.specs.Operation.{distinct, from_one, allowed}
use Rattle.operation.specs.Gate.{gate_powers, gate_phase, gate_row}
use Rattle.operation.proofs.Operands.{distinct-facts, single-facts}
use Rattle.operation.proofs.Gate.{plain}
use Rattle.conjugation.specs.Generators.{x_on, z_on}
use Rattle.conjugation.specs.Published.{image_x, image_z}
use Rattle.conjugation.specs.Conjugation.{GateConjugates}
use Rattle.conjugation.proofs.Put.{put_cong, put_again, Apart, put_two, two_xc, two_zc, two_xt, two_zt, two_again}
use Rattle.conjugation.proofs.On.{On, OnTwo, on_cong, on-eq, product-on, x_on_lem, z_on_lem, x_power, z_power, x_away, z_away, two-eq, of_c, of_t, of_both, x_apart, z_apart}
use Rattle.conjugation.proofs.Acts.{mapped, gained, acts, reads-gate}
use Rattle.conjugation.proofs.Gates.{gate_homomorphism}

-- A table's entry for q, with another for the rest.
choose : (F : ℕ → List ℕ) (q j : ℕ) {A B : List ℕ} → F q ≡ A → (j ≢ q → F j ≡ B) → F j ≡ cond (eqb j q) A B
choose F q j {A} {B} here there = by (ℕ_discrete j q)
  where
    by : Dec (j ≡ q) → F j ≡ cond (eqb j q) A B
    by (yes e) = rw (eq-eqb j q e, e) here
    by (no e) = rw (ne_eqb j q e) (there e)

-- An entry that says the same as the rest.
idle : (F : ℕ → List ℕ) (q j : ℕ) {A : List ℕ} → F q ≡ A → cond (eqb j q) A (F j) ≡ F j
idle F q j {A} here = by (ℕ_discrete j q)
  where
    by : Dec (j ≡ q) → cond (eqb j q) A (F j) ≡ F j
    by (yes e) = rw (eq-eqb j q e, e, here)
    by (no e) = rw (ne_eqb j q e)

-- The generators' images under a map of rows.
record Images (n : ℕ) (F : List ℕ → List ℕ) (X Z : ℕ → List ℕ) : Type 0 where
  on_x : (j : ℕ) → j < n → F (x_on n j) ≡ X j
  on_z : (j : ℕ) → j < n → F (z_on n j) ≡ Z j

-- a function of the powers on q, or on c and t
abbrev at_one : (n q : ℕ) → (ℕ → ℕ → ℕ) → (ℕ → ℕ) → ℕ
at_one n q F u = F (u q) (u (n + q))

abbrev at-two : (n c t : ℕ) → (ℕ → ℕ → ℕ → ℕ → ℕ) → (ℕ → ℕ) → ℕ
at-two n c t F u = F (u c) (u (n + c)) (u t) (u (n + t))

module _ {d n : ℕ} (low : 1 < d) (op : Operation) where
  -- A gate that makes A and B of the powers a and b on q, and adds G to the phase.
  module _ {q : ℕ} (l : q < n) (A B G : ℕ → ℕ → ℕ)
      (gate : (v : List ℕ) (u : ℕ → ℕ) (r : ℕ) → Reads d n v u r
      → Reads d n (gate_row d n op v) (put n q (at_one n q A u) (at_one n q B u) u) (r + at_one n q G u)) where
    sends : {u : ℕ → ℕ} {v w : List ℕ} {a b : ℕ} → On d n q u v a b 0 → On d n q u w (A a b) (B a b) (G a b) → gate_row d n op v ≡ w
    sends {u} {v} {w} {a} {b} o o' =
        unique
        (reads_cong (λ s k. cong_trans (cong_eq d (put_again l _ _ a b u s)) (put_cong n q u u s (local A) (local B) (cong_refl d _)))
        (cong_trans (cong_eq d (zero-add _)) (local G))
        (gate v _ 0 o.reads))
        o'.reads
      where
        local : (F : ℕ → ℕ → ℕ) → Cong d (at_one n q F (put n q a b u)) (F a b)
        local F = cong_eq d (rw (put_x, put_z n q a b u l))

    images : {X Z : List ℕ} → (A 0 0 ≡ 0) × (B 0 0 ≡ 0) × (G 0 0 ≡ 0) → On d n q none X (A 1 0) (B 1 0) (G 1 0) → On d n q none Z (A 0 1) (B 0 1) (G 0 1)
        → Images n (gate_row d n op) (λ j. cond (eqb j q) X (x_on n j)) (λ j. cond (eqb j q) Z (z_on n j))
    images nought x z =
        record {
          on_x = λ j k. choose (λ i. gate_row d n op (x_on n i)) q j (sends (x_on_lem low l) x) (λ e. still (x_away low l k e));
          on_z = λ j k. choose (λ i. gate_row d n op (z_on n i)) q j (sends (z_on_lem low l) z) (λ e. still (z_away low l k e));
        }
      where
        still : {u : ℕ → ℕ} {v : List ℕ} → On d n q u v 0 0 0 → gate_row d n op v ≡ v
        still o = sends o (on-eq (omega arith) o)

  -- A gate that makes A, B, C and D of the powers on c and t.
  module _ {c t : ℕ} (two : Apart n c t) (A B C D G : ℕ → ℕ → ℕ → ℕ → ℕ)
      (gate : (v : List ℕ) (u : ℕ → ℕ) (r : ℕ) → Reads d n v u r
      → Reads d n (gate_row d n op v) (put_two n c t (at-two n c t A u) (at-two n c t B u) (at-two n c t C u) (at-two n c t D u) u)
      (r + at-two n c t G u)) where
    sends-two : {u : ℕ → ℕ} {v w : List ℕ} {a b x y : ℕ} → OnTwo d n c t u v a b x y 0
        → OnTwo d n c t u w (A a b x y) (B a b x y) (C a b x y) (D a b x y) (G a b x y)
        → gate_row d n op v ≡ w
    sends-two {u} {v} {w} {a} {b} {x} {y} o o' =
        unique
        (reads_cong
        (λ s k.
        cong_trans (cong_eq d (two_again two _ _ _ _ a b x y u s))
        (put_cong n t _ _ s (local C) (local D) (put_cong n c u u s (local A) (local B) (cong_refl d _))))
        (cong_trans (cong_eq d (zero-add _)) (local G))
        (gate v _ 0 o.reads))
        o'.reads
      where
        local : (F : ℕ → ℕ → ℕ → ℕ → ℕ) → Cong d (at-two n c t F (put_two n c t a b x y u)) (F a b x y)
        local F = cong_eq d (rw (two_xc two a b x y u, two_zc two a b x y u, two_xt two a b x y u, two_zt two a b x y u))

    images-two : {Xc Zc Xt Zt : List ℕ} → (A 0 0 0 0 ≡ 0) × (B 0 0 0 0 ≡ 0) × (C 0 0 0 0 ≡ 0) × (D 0 0 0 0 ≡ 0) × (G 0 0 0 0 ≡ 0)
        → OnTwo d n c t none Xc (A 1 0 0 0) (B 1 0 0 0) (C 1 0 0 0) (D 1 0 0 0) (G 1 0 0 0)
        → OnTwo d n c t none Xt (A 0 0 1 0) (B 0 0 1 0) (C 0 0 1 0) (D 0 0 1 0) (G 0 0 1 0)
        → OnTwo d n c t none Zc (A 0 1 0 0) (B 0 1 0 0) (C 0 1 0 0) (D 0 1 0 0) (G 0 1 0 0)
        → OnTwo d n c t none Zt (A 0 0 0 1) (B 0 0 0 1) (C 0 0 0 1) (D 0 0 0 1) (G 0 0 0 1)
        → Images n (gate_row d n op) (λ j. cond (eqb j c) Xc (cond (eqb j t) Xt (x_on n j))) (λ j. cond (eqb j c) Zc (cond (eqb j t) Zt (z_on n j)))
    images-two nought xc xt zc zt =
        record {
          on_x = λ j k.
              choose (λ i. gate_row d n op (x_on n i)) c j (sends-two (of_c low two (x_on_lem low two.c-low)) xc)
              (λ e.
              choose (λ i. gate_row d n op (x_on n i)) t j (sends-two (of_t low two (x_on_lem low two.t-low)) xt)
              (λ e'. still (x_apart low two k e e')));
          on_z = λ j k.
              choose (λ i. gate_row d n op (z_on n i)) c j (sends-two (of_c low two (z_on_lem low two.c-low)) zc)
              (λ e.
              choose (λ i. gate_row d n op (z_on n i)) t j (sends-two (of_t low two (z_on_lem low two.t-low)) zt)
              (λ e'. still (z_apart low two k e e')));
        }
      where
        still : {u : ℕ → ℕ} {v : List ℕ} → OnTwo d n c t u v 0 0 0 0 0 → gate_row d n op v ≡ v
        still o = sends-two o (two-eq (omega arith) o)

-- d − 1 is −1.
minus : (d k : ℕ) → 0 < d → Cong d (neg d k) (pred d * k)
minus zero k p = absurd (omega arith)
minus (suc e) k p = neg_is e k

minus_one : (d : ℕ) → 0 < d → Cong d (neg d 1) (pred d)
minus_one d p = cong_trans (minus d 1 p) (cong_eq d (omega arith))

apart : (n c t : ℕ) → distinct n c t ≡ true → Apart n c t
apart n c t h = let (x, y, z) = distinct-facts n c t h in record { c-low = x; t-low = y; differ = z }

module _ (d n : ℕ) (dim : Dimension d) where
  low : 1 < d
  low = omega (arith, dim.low)

  negative : Cong d (neg d 1) (pred d)
  negative = minus_one d (omega (arith, dim.low))

  x_inverse : {q : ℕ} → q < n → On d n q none (power d n (neg d 1) (x_on n q)) (pred d) 0 0
  x_inverse l = on_cong negative (cong_refl d 0) (cong_refl d 0) (x_power low l (neg d 1))

  z_inverse : {q : ℕ} → q < n → On d n q none (power d n (neg d 1) (z_on n q)) 0 (pred d) 0
  z_inverse l = on_cong (cong_refl d 0) negative (cong_refl d 0) (z_power low l (neg d 1))

  -- Fourier, by the tests k = 1 and k = 2
  abbrev fourier_x_lem : Bool → Bool → ℕ → ℕ → ℕ
  fourier_x_lem x y a b = cond x (pred d * b) (cond y (pred d * a) b)

  abbrev fourier_z_lem : Bool → Bool → ℕ → ℕ → ℕ
  fourier_z_lem x y a b = cond x a (cond y (pred d * b) (pred d * a))

  abbrev fourier-phase : Bool → ℕ → ℕ → ℕ
  fourier-phase y a b = cond y 0 (pred d * (a * b))

  still : (x y : Bool) → (fourier_x_lem x y 0 0 ≡ 0) × (fourier_z_lem x y 0 0 ≡ 0) × (fourier-phase y 0 0 ≡ 0)
  still true true = omega arith
  still true false = omega arith
  still false true = omega arith
  still false false = omega arith

  fourier-on_x : {q : ℕ} → q < n → (x y : Bool)
      → On d n q none (cond x (z_on n q) (cond y (power d n (neg d 1) (x_on n q)) (power d n (neg d 1) (z_on n q))))
      (fourier_x_lem x y 1 0) (fourier_z_lem x y 1 0) (fourier-phase y 1 0)
  fourier-on_x l true true = on-eq (omega arith) (z_on_lem low l)
  fourier-on_x l true false = on-eq (omega arith) (z_on_lem low l)
  fourier-on_x l false true = on-eq (omega arith) (x_inverse l)
  fourier-on_x l false false = on-eq (omega arith) (z_inverse l)

  fourier-on_z : {q : ℕ} → q < n → (x y : Bool)
      → On d n q none (cond x (power d n (neg d 1) (x_on n q)) (cond y (power d n (neg d 1) (z_on n q)) (x_on n q)))
      (fourier_x_lem x y 0 1) (fourier_z_lem x y 0 1) (fourier-phase y 0 1)
  fourier-on_z l true true = on-eq (omega arith) (x_inverse l)
  fourier-on_z l true false = on-eq (omega arith) (x_inverse l)
  fourier-on_z l false true = on-eq (omega arith) (z_inverse l)
  fourier-on_z l false false = on-eq (omega arith) (x_on_lem low l)

  -- Z to the power −k
  z_minus : {q : ℕ} → q < n → (k : ℕ) → On d n q none (power d n (neg d k) (z_on n q)) 0 (pred d * k) 0
  z_minus l k = on_cong (cong_refl d 0) (minus d k (omega (arith, dim.low))) (cong_refl d 0) (z_power low l (neg d k))

  tables : (op : Operation) → allowed d n op ≡ true → Images n (gate_row d n op) (image_x d n op) (image_z d n op)
  unfolding image_x image_z mapped gained tri gate_powers gate_phase
  tables (Fourier q k) h =
      let l = (single-facts 4 n q k h).0 in
      images low (Fourier q k) l (fourier_x_lem (eqb k 1) (eqb k 2)) (fourier_z_lem (eqb k 1) (eqb k 2)) (fourier-phase (eqb k 2))
      (λ v u r. reads-gate dim (Fourier q k) h)
      (still (eqb k 1) (eqb k 2))
      (fourier-on_x l (eqb k 1) (eqb k 2))
      (fourier-on_z l (eqb k 1) (eqb k 2))
  tables (PhaseGate q k) h =
      let l = (single-facts d n q k h).0 in
      let p : 0 < d = omega (arith, low) in
      let i =
      images low (PhaseGate q k) l (λ a b. a) (λ a b. b + k * a) (λ a b. k * tri a) (λ v u r. reads-gate dim (PhaseGate q k) h)
      (omega arith)
      (on-eq (omega arith) (product-on l p (x_on_lem low l) (z_power low l k)))
      (on-eq (omega arith) (z_on_lem low l)) in
      record { on_x = i.on_x; on_z = λ j k. i.on_z j k ∙ idle (z_on n) q j refl }
  tables (Sum c t k) h =
      let two = apart n c t ((and-eq-true_iff (distinct n c t) (from_one d k)).0 h).0 in
      let i =
      images-two low (Sum c t k) two (λ a b x y. a) (λ a b x y. b + pred d * (k * y)) (λ a b x y. x + k * a) (λ a b x y. y) (λ a b x y. 0)
      (λ v u r. reads-gate dim (Sum c t k) h)
      (omega arith)
      (two-eq (omega arith) (of_both low two (x_on_lem low two.c-low) (x_power low two.t-low k)))
      (two-eq (omega arith) (of_t low two (x_on_lem low two.t-low)))
      (two-eq (omega arith) (of_c low two (z_on_lem low two.c-low)))
      (two-eq (omega arith) (of_both low two (z_minus two.c-low k) (z_on_lem low two.t-low))) in
      record {
        on_x = λ j k. i.on_x j k ∙ ap (cond (eqb j c) _) (idle (x_on n) t j refl);
        on_z = λ j l. i.on_z j l ∙ idle (image_z d n (Sum c t k)) c j (rw (ne_eqb c t two.differ));
      }
  tables (Cz c t k) h =
      let two = apart n c t ((and-eq-true_iff (distinct n c t) (from_one d k)).0 h).0 in
      let i =
      images-two low (Cz c t k) two (λ a b x y. a) (λ a b x y. b + k * x) (λ a b x y. x) (λ a b x y. y + k * a) (λ a b x y. k * (a * x))
      (λ v u r. reads-gate dim (Cz c t k) h)
      (omega arith)
      (two-eq (omega arith) (of_both low two (x_on_lem low two.c-low) (z_power low two.t-low k)))
      (two-eq (omega arith) (of_both low two (z_power low two.c-low k) (x_on_lem low two.t-low)))
      (two-eq (omega arith) (of_c low two (z_on_lem low two.c-low)))
      (two-eq (omega arith) (of_t low two (z_on_lem low two.t-low))) in
      record {
        on_x = i.on_x;
        on_z = λ j k. i.on_z j k ∙ ap (cond (eqb j c) _) (idle (z_on n) t j refl) ∙ idle (z_on n) c j refl;
      }
  tables (Swap c t) h =
      let two = apart n c t h in
      images-two low (Swap c t) two (λ a b x y. x) (λ a b x y. y) (λ a b x y. a) (λ a b x y. b) (λ a b x y. 0)
      (λ v u r. reads-gate dim (Swap c t) h)
      (omega arith)
      (of_t low two (x_on_lem low two.t-low))
      (of_c low two (x_on_lem low two.c-low))
      (of_t low two (z_on_lem low two.t-low))
      (of_c low two (z_on_lem low two.c-low))
  tables (Multiplier q m) h =
      let l = (single-facts d n q m h).0 in
      images low (Multiplier q m) l (λ a b. m * a) (λ a b. inverse d m * b) (λ a b. 0) (λ v u r. reads-gate dim (Multiplier q m) h)
      (omega arith)
      (on-eq (omega arith) (x_power low l _))
      (on-eq (omega arith) (z_power low l _))
  tables (Measure q) h =
      record {
        on_x = λ j k. plain d n (Measure q) (x_on n j) h (reads-row (x_on_lem low k).reads) refl;
        on_z = λ j k. plain d n (Measure q) (z_on n j) h (reads-row (z_on_lem low k).reads) refl;
      }
  tables (Reset q) h =
      record {
        on_x = λ j k. plain d n (Reset q) (x_on n j) h (reads-row (x_on_lem low k).reads) refl;
        on_z = λ j k. plain d n (Reset q) (z_on n j) h (reads-row (z_on_lem low k).reads) refl;
      }
  tables (Correct t m) h =
      record {
        on_x = λ j k. plain d n (Correct t m) (x_on n j) h (reads-row (x_on_lem low k).reads) refl;
        on_z = λ j k. plain d n (Correct t m) (z_on n j) h (reads-row (z_on_lem low k).reads) refl;
      }

  scalars : (op : Operation) → allowed d n op ≡ true → (r : ℕ) → r < d → gate_row d n op (scalar n r) ≡ scalar n r
  scalars op h r l =
      let hom = (acts dim op h).hom in
      unique
      (reads_cong hom.none (cong_trans (cong_add (cong_refl d r) hom.none-gain) (cong_eq d (omega arith)))
      (reads-gate dim op h (reads-scalar d n r l)))
      (reads-scalar d n r l)

pub gate_conjugates : GateConjugates
gate_conjugates d n dim op h = (
  gate_homomorphism dim op h,
  record { scalars = scalars d n dim op h; on_x = (tables d n dim op h).on_x; on_z = (tables d n dim op h).on_z },
)
