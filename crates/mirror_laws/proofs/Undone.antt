-- What undoes a gate: k applications and d − k more are d, which do nothing; Fourier goes by its three powers, the multiplier by the rule
-- of the inverse.
-- Assumes nothing.
use mathlib.Core.Path.{◌≡◌, refl, sym, ap, ◌∙◌, subst}
use mathlib.Core.Bool.{Bool, true, ◌&&◌, and-eq-true_iff}
use mathlib.Core.List.{List}
use Prim.Native.Nat.{ℕ, zero, suc, pred, ◌+◌, ◌-◌, ◌*◌, ◌%◌, ◌<◌}
use native.Mathlib.Nat.{mod-eq_of_lt}
use native.Mathlib.Omega.{arith}
use lib.Dec.{ltb}
use borrow.Author.Tests.{lt-ltb, le-leb}
use Rattle.congruence.proofs.Congruence.{Cong, cong_refl, cong_eq, cong_trans, cong_add, cong_mul-left, cong_of_mod}
use Rattle.symplectic.proofs.Triangle.{tri}
use Rattle.symplectic.proofs.Gates.{put, put_x, put_z}
use Rattle.modular.specs.Dimension.{inverse, Dimension}
use Rattle.row.specs.Row.{phase_of}
use Rattle.tableau.specs.Tableau.{every}
use Rattle.tableau.proofs.Parts.{Keeps, tableau-row, on_one, on_none}
use Rattle.row_laws.proofs.Reading.{bytes, reads_self, unique, reads_cong}
use Rattle.operation.specs.declared.Operation.{Operation}
use Rattle.operation.specs.declared.Operation.TheVariants.{Fourier, PhaseGate, Sum, Cz, Swap, Multiplier, Measure, Reset, Correct}
use Rattle.operation.specs.Operation.{distinct, from_one, allowed}
use Rattle.operation.specs.Gate.{gate_row}
use Rattle.operation.proofs.Gate.{gate-keeps}
use Rattle.operation.proofs.Operands.{distinct-facts, single-facts, pair-facts}
use Rattle.conjugation.proofs.Put.{put_cong, put_again, put_self, Apart, put_two, two_xc, two_zc, two_xt, two_zt, two_again}
use Rattle.conjugation.proofs.Acts.{mapped, gained, reads-gate}
use Rattle.conjugation.proofs.Composed.{Makes, put_values, two_values, squared, cancelled, phase-gates, sums, czs}
use Rattle.conjugation.proofs.Repeated.{both_true}
use Rattle.mirror_book.specs.Undoing.{undoing}
use Rattle.mirror_laws.specs.Undone.{UndoingAllowed, RowUndone, RowsUndone}

-- first, then next, does nothing to powers and phase
record Undoes (d n : ℕ) (first next : Operation) : Type 0 where
  powers : (u : ℕ → ℕ) (s : ℕ) → Cong d (mapped d n next (mapped d n first u) s) (u s)
  phase : (u : ℕ → ℕ) → Cong d (gained d n first u + gained d n next (mapped d n first u)) 0

-- an operation that does nothing
record Idle (d n : ℕ) (op : Operation) : Type 0 where
  powers : (u : ℕ → ℕ) (s : ℕ) → Cong d (mapped d n op u s) (u s)
  phase : (u : ℕ → ℕ) → Cong d (gained d n op u) 0

by-idle : {d n : ℕ} {first next both : Operation} → Makes d n first next both → Idle d n both → Undoes d n first next
by-idle m i = record { powers = λ u s. cong_trans (m.powers u s) (i.powers u s); phase = λ u. cong_trans (m.phase u) (i.phase u) }

module _ (d n : ℕ) where
  -- what is added d times is nothing
  none : (x : ℕ) → Cong d (d * x) 0
  none x = record { p = 0; q = x; eq = omega arith }

  more : (b x : ℕ) → Cong d (b + d * x) b
  more b x = record { p = 0; q = x; eq = omega arith }

  two-self : {c t : ℕ} → Apart n c t → (u : ℕ → ℕ) (s : ℕ) → put_two n c t (u c) (u (n + c)) (u t) (u (n + t)) u s ≡ u s
  two-self {c} {t} two u s =
      put_values n t (put n c (u c) (u (n + c)) u) s (sym (put_self two.c-low u t)) (sym (put_self two.c-low u (n + t)))
      ∙ put_self two.t-low (put n c (u c) (u (n + c)) u) s
      ∙ put_self two.c-low u s

  phase-gate-idle : (q : ℕ) → q < n → Idle d n (PhaseGate q d)
  unfolding mapped gained
  phase-gate-idle q l =
      record {
        powers = λ u s.
            cong_trans (put_cong n q u u s (cong_refl d (u q)) (more (u (n + q)) (u q)) (cong_refl d (u s))) (cong_eq d (put_self l u s));
        phase = λ u. none (tri (u q));
      }

  sum-idle : (c t : ℕ) → Apart n c t → Idle d n (Sum c t d)
  unfolding mapped gained
  sum-idle c t two =
      record {
        powers = λ u s.
            let back : Cong d (u (n + c) + pred d * (d * u (n + t))) (u (n + c)) =
            cong_trans (cong_add (cong_refl d (u (n + c))) (cong_mul-left (pred d) (none (u (n + t))))) (cong_eq d (omega arith)) in
            cong_trans
            (put_cong n t (put n c (u c) (u (n + c) + pred d * (d * u (n + t))) u) (put n c (u c) (u (n + c)) u) s
            (more (u t) (u c))
            (cong_refl d (u (n + t)))
            (put_cong n c u u s (cong_refl d (u c)) back (cong_refl d (u s))))
            (cong_eq d (two-self two u s));
        phase = λ u. cong_refl d 0;
      }

  cz-idle : (c t : ℕ) → Apart n c t → Idle d n (Cz c t d)
  unfolding mapped gained
  cz-idle c t two =
      record {
        powers = λ u s.
            cong_trans
            (put_cong n t (put n c (u c) (u (n + c) + d * u t) u) (put n c (u c) (u (n + c)) u) s
            (cong_refl d (u t))
            (more (u (n + t)) (u c))
            (put_cong n c u u s (cong_refl d (u c)) (more (u (n + c)) (u t)) (cong_refl d (u s))))
            (cong_eq d (two-self two u s));
        phase = λ u. none (u c * u t);
      }

  swap-undone : (c t : ℕ) → Apart n c t → Undoes d n (Swap c t) (Swap c t)
  unfolding mapped gained
  swap-undone c t two =
      record {
        powers = λ u s.
            let a = u t in
            let b = u (n + t) in
            let x = u c in
            let y = u (n + c) in
            cong_eq d
            (two_again two _ _ _ _ a b x y u s
            ∙ two_values n c t u s (two_xt two a b x y u) (two_zt two a b x y u) (two_xc two a b x y u) (two_zc two a b x y u)
            ∙ two-self two u s);
        phase = λ u. cong_refl d 0;
      }

  -- w is the inverse of m, and has one itself
  multiplier-undone : (q m w : ℕ) → q < n → inverse d m ≡ w → Cong d (m * w) 1 → Cong d (w * inverse d w) 1
      → Undoes d n (Multiplier q m) (Multiplier q w)
  unfolding mapped gained
  multiplier-undone q m w l e h k =
      record {
        powers = λ u s.
            let x = put_x n q (m * u q) (inverse d m * u (n + q)) u in
            let z = put_z n q (m * u q) (inverse d m * u (n + q)) u l in
            cong_trans
            (cong_eq d (put_again l _ _ _ _ u s ∙ put_values n q u s (ap (λ (y : ℕ). w * y) x) (ap (λ (y : ℕ). inverse d w * y) z)))
            (cong_trans
            (put_cong n q u u s
            (cong_trans (cong_eq d (omega arith)) (cong_trans (cong_mul-left (u q) h) (cong_eq d (omega arith))))
            (cong_trans (cong_eq d (ap (λ (y : ℕ). inverse d w * (y * u (n + q))) e ∙ omega arith))
            (cong_trans (cong_mul-left (u (n + q)) k) (cong_eq d (omega arith))))
            (cong_refl d (u s)))
            (cong_eq d (put_self l u s)));
        phase = λ u. cong_refl d 0;
      }

module _ (e n q : ℕ) (l : q < n) where
  once-undone : Undoes (suc e) n (Fourier q 1) (Fourier q 3)
  unfolding mapped gained
  once-undone =
      record {
        powers = λ u s.
            let x = put_x n q (e * u (n + q)) (u q) u in
            let z = put_z n q (e * u (n + q)) (u q) u l in
            cong_trans (cong_eq (suc e) (put_again l _ _ _ _ u s ∙ put_values n q u s z (ap (λ (y : ℕ). e * y) x)))
            (cong_trans (put_cong n q u u s (cong_refl (suc e) (u q)) (squared e (u (n + q))) (cong_refl (suc e) (u s)))
            (cong_eq (suc e) (put_self l u s)));
        phase = λ u.
            let x = put_x n q (e * u (n + q)) (u q) u in
            let z = put_z n q (e * u (n + q)) (u q) u l in
            cong_trans (cong_eq (suc e) (rw (x, z) (omega arith))) (cancelled e (u q * u (n + q)));
      }

  twice-undone : Undoes (suc e) n (Fourier q 2) (Fourier q 2)
  unfolding mapped gained
  twice-undone =
      record {
        powers = λ u s.
            let x = put_x n q (e * u q) (e * u (n + q)) u in
            let z = put_z n q (e * u q) (e * u (n + q)) u l in
            cong_trans (cong_eq (suc e) (put_again l _ _ _ _ u s ∙ put_values n q u s (ap (λ (y : ℕ). e * y) x) (ap (λ (y : ℕ). e * y) z)))
            (cong_trans (put_cong n q u u s (squared e (u q)) (squared e (u (n + q))) (cong_refl (suc e) (u s)))
            (cong_eq (suc e) (put_self l u s)));
        phase = λ u. cong_refl (suc e) 0;
      }

  thrice_undone : Undoes (suc e) n (Fourier q 3) (Fourier q 1)
  unfolding mapped gained
  thrice_undone =
      record {
        powers = λ u s.
            let x = put_x n q (u (n + q)) (e * u q) u in
            let z = put_z n q (u (n + q)) (e * u q) u l in
            cong_trans (cong_eq (suc e) (put_again l _ _ _ _ u s ∙ put_values n q u s (ap (λ (y : ℕ). e * y) z) x))
            (cong_trans (put_cong n q u u s (squared e (u q)) (cong_refl (suc e) (u (n + q))) (cong_refl (suc e) (u s)))
            (cong_eq (suc e) (put_self l u s)));
        phase = λ u.
            let x = put_x n q (u (n + q)) (e * u q) u in
            let z = put_z n q (u (n + q)) (e * u q) u l in
            cong_trans (cong_eq (suc e) (rw (x, z) (omega arith))) (cancelled e (u q * u (n + q)));
      }

fourier-undone : (e n q k : ℕ) → q < n → 0 < k → k < 4 → Undoes (suc e) n (Fourier q k) (Fourier q (4 - k))
fourier-undone e n q zero l low high = absurd (omega arith)
fourier-undone e n q (suc zero) l low high = once-undone e n q l
fourier-undone e n q (suc (suc zero)) l low high = twice-undone e n q l
fourier-undone e n q (suc (suc (suc zero))) l low high = thrice_undone e n q l
fourier-undone e n q (suc (suc (suc (suc k)))) l low high = absurd (omega arith)

-- operands that were in range with k, with m − k
rest-fits : (m k : ℕ) (x : Bool) → x && from_one m k ≡ true → 0 < k → k < m → x && from_one m (m - k) ≡ true
rest-fits m k x h low high =
    both_true x (from_one m (m - k)) ((and-eq-true_iff x (from_one m k)).0 h).0
    (rw (le-leb 1 (m - k) (omega arith), lt-ltb (m - k) m (omega arith)))

module _ {d : ℕ} (dim : Dimension d) where
  -- the inverse of u from 1 to d − 1 is one of them
  pub inverse-positive : (u : ℕ) → 0 < u → u < d → 0 < inverse d u
  inverse-positive u low high = by (inverse d u) refl
    where
      by : (w : ℕ) → inverse d u ≡ w → 0 < w
      by zero e =
          let z : u * inverse d u % d ≡ 0 % d = ap (λ (y : ℕ). y % d) (ap (λ (y : ℕ). u * y) e ∙ omega arith) in
          let o : 0 % d ≡ 0 = mod-eq_of_lt (omega (arith, dim.low)) in
          absurd (omega (arith, dim.rule u low high))
      by (suc w) e = omega arith

  pub leaves-one : (u : ℕ) → 0 < u → u < d → Cong d (u * inverse d u) 1
  leaves-one u low high = cong_of_mod d _ 1 (dim.rule u low high ∙ sym (mod-eq_of_lt (omega (arith, dim.low))))

pub undoing-allowed : UndoingAllowed
undoing-allowed d n dim (Fourier q k) h = let (l, low, high) = single-facts 4 n q k h in rest-fits 4 k (ltb q n) h low high
undoing-allowed d n dim (PhaseGate q k) h = let (l, low, high) = single-facts d n q k h in rest-fits d k (ltb q n) h low high
undoing-allowed d n dim (Sum c t k) h = let (_, _, _, low, high) = pair-facts d n c t k h in rest-fits d k (distinct n c t) h low high
undoing-allowed d n dim (Cz c t k) h = let (_, _, _, low, high) = pair-facts d n c t k h in rest-fits d k (distinct n c t) h low high
undoing-allowed d n dim (Swap c t) h = h
undoing-allowed d n dim (Multiplier q u) h =
    let (l, low, high) = single-facts d n q u h in
    both_true (ltb q n) (from_one d (inverse d u)) (lt-ltb q n l)
    (rw (le-leb 1 (inverse d u) (inverse-positive dim u low high), lt-ltb (inverse d u) d (dim.small u)))
undoing-allowed d n dim (Measure q) h = h
undoing-allowed d n dim (Reset q) h = h
undoing-allowed d n dim (Correct t m) h = h

-- k of d applications and the others
module _ (d n k : ℕ) (high : k < d) where
  together : k + (d - k) ≡ d
  together = omega arith

  rest-undoes : {first : Operation} (made : ℕ → Operation) → Makes d n first (made (d - k)) (made (k + (d - k))) → Idle d n (made d)
      → Undoes d n first (made (d - k))
  rest-undoes {first} made m i = by-idle (subst (λ (x : ℕ). Makes d n first (made (d - k)) (made x)) together m) i

undoes : (d n : ℕ) → Dimension d → (op : Operation) → allowed d n op ≡ true → Undoes d n op (undoing d op)
unfolding mapped gained
undoes zero n dim op h = absurd (omega (arith, dim.low))
undoes (suc e) n dim (Fourier q k) h = let (l, low, high) = single-facts 4 n q k h in fourier-undone e n q k l low high
undoes (suc e) n dim (PhaseGate q k) h =
    let (l, low, high) = single-facts (suc e) n q k h in
    rest-undoes (suc e) n k high (PhaseGate q) (phase-gates (suc e) n q k (suc e - k) l) (phase-gate-idle (suc e) n q l)
undoes (suc e) n dim (Sum c t k) h =
    let (x, y, z, low, high) = pair-facts (suc e) n c t k h in
    let two : Apart n c t = record { c-low = x; t-low = y; differ = z } in
    rest-undoes (suc e) n k high (Sum c t) (sums (suc e) n c t k (suc e - k) two) (sum-idle (suc e) n c t two)
undoes (suc e) n dim (Cz c t k) h =
    let (x, y, z, low, high) = pair-facts (suc e) n c t k h in
    let two : Apart n c t = record { c-low = x; t-low = y; differ = z } in
    rest-undoes (suc e) n k high (Cz c t) (czs (suc e) n c t k (suc e - k) two) (cz-idle (suc e) n c t two)
undoes (suc e) n dim (Swap c t) h =
    let (x, y, z) = distinct-facts n c t h in swap-undone (suc e) n c t (record { c-low = x; t-low = y; differ = z })
undoes (suc e) n dim (Multiplier q u) h =
    let (l, low, high) = single-facts (suc e) n q u h in
    multiplier-undone (suc e) n q u (inverse (suc e) u) l refl (leaves-one dim u low high)
    (leaves-one dim (inverse (suc e) u) (inverse-positive dim u low high) (dim.small u))
undoes (suc e) n dim (Measure q) h = record { powers = λ u s. cong_refl (suc e) (u s); phase = λ u. cong_refl (suc e) 0 }
undoes (suc e) n dim (Reset q) h = record { powers = λ u s. cong_refl (suc e) (u s); phase = λ u. cong_refl (suc e) 0 }
undoes (suc e) n dim (Correct t m) h = record { powers = λ u s. cong_refl (suc e) (u s); phase = λ u. cong_refl (suc e) 0 }

pub row-undone : RowUndone
row-undone d n dim op h v r =
    let u = bytes v in
    let m = undoes d n dim op h in
    unique
    (reads_cong (λ s l. m.powers u s)
    (cong_trans (cong_eq d (omega arith)) (cong_trans (cong_add (cong_refl d (phase_of n v)) (m.phase u)) (cong_eq d (omega arith))))
    (reads-gate dim (undoing d op) (undoing-allowed d n dim op h) (reads-gate dim op h (reads_self r))))
    (reads_self r)

pub rows-undone : RowsUndone
rows-undone d n dim op h t r =
    on_one n (every (gate_row d n (undoing d op))) (every (gate_row d n op)) same (gate-keeps d n (undoing d op)) (gate-keeps d n op) kept t r.room
    (λ i l. row-undone d n dim op h _ (tableau-row d n t r i l))
    ∙ on_none n same kept t r.room (λ i l. refl)
  where
    same : ℕ → List ℕ → List ℕ
    same i v = v

    kept : Keeps (2 * n + 1) same
    kept = record { keeps = λ i v l. l }
