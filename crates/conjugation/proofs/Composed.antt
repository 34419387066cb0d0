-- One operation after another that is a third: on powers and phases, on rows, tableaus and frames.
-- Assumes nothing.
use mathlib.Core.Path.{◌≡◌, sym, ap, ◌∙◌}
use mathlib.Core.Bool.{true}
use mathlib.Core.List.{List}
use Prim.Native.Nat.{ℕ, suc, pred, ◌+◌, ◌*◌, ◌<◌}
use native.Mathlib.Decide.{dec_lt}
use native.Mathlib.Omega.{arith}
use lib.ListN.{get_or}
use lib.Seq.{ext_get_or}
use Rattle.congruence.proofs.Congruence.{Cong, cong_refl, cong_eq, cong_sym, cong_trans, cong_add, cong_mul-left, small_cong}
use Rattle.symplectic.proofs.Gates.{put, put_x, put_z}
use Rattle.modular.specs.Dimension.{Dimension}
use Rattle.row.specs.Row.{Row, Powers, phase_of}
use Rattle.tableau.specs.Tableau.{Tableau, every}
use Rattle.tableau.proofs.Parts.{tableau-row, on_one}
use Rattle.row_laws.proofs.Reading.{bytes, reads_self, unique, reads_cong}
use Rattle.operation.specs.declared.Operation.{Operation}
use Rattle.operation.specs.declared.Operation.TheVariants.{Fourier, PhaseGate, Sum, Cz}
use Rattle.operation.specs.Operation.{allowed}
use Rattle.operation.specs.Gate.{gate_row, gate_rows, gate_frame, gate_powers}
use Rattle.operation.proofs.Gate.{gate-powers-length, gate-powers, gate-past, gate-keeps}
use Rattle.conjugation.proofs.Put.{put_cong, put_again, Apart, put_two, two_xc, two_zc, two_xt, two_zt, two_again}
use Rattle.conjugation.proofs.Acts.{mapped, gained, acts, reads-gate}

-- first, then next, does to powers and phase what `both` does
pub record Makes (d n : ℕ) (first next both : Operation) : Type 0 where
  pub powers : (u : ℕ → ℕ) (s : ℕ) → Cong d (mapped d n next (mapped d n first u) s) (mapped d n both u s)
  pub phase : (u : ℕ → ℕ) → Cong d (gained d n first u + gained d n next (mapped d n first u)) (gained d n both u)

pub put_values : (n q : ℕ) {a a' b b' : ℕ} (u : ℕ → ℕ) (s : ℕ) → a ≡ a' → b ≡ b' → put n q a b u s ≡ put n q a' b' u s
put_values n q u s x y = rw (x, y)

pub two_values : (n c t : ℕ) {a a' b b' x x' y y' : ℕ} (u : ℕ → ℕ) (s : ℕ) → a ≡ a' → b ≡ b' → x ≡ x' → y ≡ y'
    → put_two n c t a b x y u s ≡ put_two n c t a' b' x' y' u s
two_values n c t u s i j k l = rw (i, j, k, l)

module _ (d n : ℕ) where
  -- k applications, then j more
  pub phase-gates : (q k j : ℕ) → q < n → Makes d n (PhaseGate q k) (PhaseGate q j) (PhaseGate q (k + j))
  unfolding mapped gained
  phase-gates q k j l =
      record {
        powers = λ u s.
            let x = put_x n q (u q) (u (n + q) + k * u q) u in
            let z = put_z n q (u q) (u (n + q) + k * u q) u l in
            cong_eq d (put_again l _ _ _ _ u s ∙ put_values n q u s x (omega (arith, z, ap (λ (y : ℕ). j * y) x)));
        phase = λ u. cong_eq d (rw (put_x n q (u q) (u (n + q) + k * u q) u) (omega arith));
      }

  pub sums : (c t k j : ℕ) → Apart n c t → Makes d n (Sum c t k) (Sum c t j) (Sum c t (k + j))
  unfolding mapped gained
  sums c t k j two =
      record {
        powers = λ u s.
            let a = u c in
            let b = u (n + c) + pred d * (k * u (n + t)) in
            let x = u t + k * u c in
            let y = u (n + t) in
            let ia = two_xc two a b x y u in
            let ib = two_zc two a b x y u in
            let ix = two_xt two a b x y u in
            let iy = two_zt two a b x y u in
            cong_eq d
            (two_again two _ _ _ _ a b x y u s
            ∙ two_values n c t u s ia
            (omega (arith, ib, ap (λ (z : ℕ). pred d * (j * z)) iy))
            (omega (arith, ix, ap (λ (z : ℕ). j * z) ia))
            iy);
        phase = λ u. cong_refl d 0;
      }

  pub czs : (c t k j : ℕ) → Apart n c t → Makes d n (Cz c t k) (Cz c t j) (Cz c t (k + j))
  unfolding mapped gained
  czs c t k j two =
      record {
        powers = λ u s.
            let a = u c in
            let b = u (n + c) + k * u t in
            let x = u t in
            let y = u (n + t) + k * u c in
            let ia = two_xc two a b x y u in
            let ib = two_zc two a b x y u in
            let ix = two_xt two a b x y u in
            let iy = two_zt two a b x y u in
            cong_eq d
            (two_again two _ _ _ _ a b x y u s
            ∙ two_values n c t u s ia
            (omega (arith, ib, ap (λ (z : ℕ). j * z) ix))
            ix
            (omega (arith, iy, ap (λ (z : ℕ). j * z) ia)));
        phase = λ u.
            let a = u c in
            let b = u (n + c) + k * u t in
            let x = u t in
            let y = u (n + t) + k * u c in
            cong_eq d (rw (two_xc two a b x y u, two_xt two a b x y u) (omega arith));
      }

-- −1 squared is 1.
pub squared : (e b : ℕ) → Cong (suc e) (e * (e * b)) b
squared e b = record { p = b; q = e * b; eq = omega arith }

pub cancelled : (e x : ℕ) → Cong (suc e) (e * x + e * (e * x)) 0
cancelled e x = record { p = 0; q = e * x; eq = omega arith }

module _ (e n q : ℕ) (l : q < n) where
  -- once more after once, and after twice
  pub fourier-once-more : Makes (suc e) n (Fourier q 1) (Fourier q 1) (Fourier q 2)
  unfolding mapped gained
  fourier-once-more =
      record {
        powers = λ u s.
            let x = put_x n q (e * u (n + q)) (u q) u in
            let z = put_z n q (e * u (n + q)) (u q) u l in
            cong_eq (suc e) (put_again l _ _ _ _ u s ∙ put_values n q u s (ap (λ (y : ℕ). e * y) z) x);
        phase = λ u.
            let x = put_x n q (e * u (n + q)) (u q) u in
            let z = put_z n q (e * u (n + q)) (u q) u l in
            cong_trans (cong_eq (suc e) (rw (x, z) (omega arith))) (cancelled e (u q * u (n + q)));
      }

  pub fourier-twice-more : Makes (suc e) n (Fourier q 2) (Fourier q 1) (Fourier q 3)
  unfolding mapped gained
  fourier-twice-more =
      record {
        powers = λ u s.
            let x = put_x n q (e * u q) (e * u (n + q)) u in
            let z = put_z n q (e * u q) (e * u (n + q)) u l in
            cong_trans (cong_eq (suc e) (put_again l _ _ _ _ u s ∙ put_values n q u s (ap (λ (y : ℕ). e * y) z) x))
            (put_cong n q u u s (squared e (u (n + q))) (cong_refl (suc e) _) (cong_refl (suc e) _));
        phase = λ u.
            let x = put_x n q (e * u q) (e * u (n + q)) u in
            let z = put_z n q (e * u q) (e * u (n + q)) u l in
            cong_trans (cong_eq (suc e) (rw (x, z) (omega arith))) (cong_mul-left e (squared e (u q * u (n + q))));
      }

-- What the composition says of rows, of all rows of a tableau, and of frames.
module _ {d n : ℕ} (dim : Dimension d) (first next both : Operation) (a : allowed d n first ≡ true) (b : allowed d n next ≡ true)
    (c : allowed d n both ≡ true) (m : Makes d n first next both) where
  low : 0 < d
  low = omega (arith, dim.low)

  pub row_makes : {v : List ℕ} → Row d n v → gate_row d n next (gate_row d n first v) ≡ gate_row d n both v
  row_makes {v} r =
      let u = bytes v in
      unique
      (reads_cong (λ s l. m.powers u s) (cong_trans (cong_eq d (omega arith)) (cong_add (cong_refl d (phase_of n v)) (m.phase u)))
      (reads-gate dim next b (reads-gate dim first a (reads_self r))))
      (reads-gate dim both c (reads_self r))

  pub rows_make : {t : List ℕ} → Tableau d n t → gate_rows d n next (gate_rows d n first t) ≡ gate_rows d n both t
  rows_make {t} h =
      on_one n (every (gate_row d n next)) (every (gate_row d n first)) (every (gate_row d n both)) (gate-keeps d n next) (gate-keeps d n first)
      (gate-keeps d n both)
      t
      h.room
      (λ i l. row_makes (tableau-row d n t h i l))

  pub frame-makes : {F : List ℕ} → Powers d n F → gate_frame d n next (gate_frame d n first F) ≡ gate_frame d n both F
  frame-makes {F} p =
      ext_get_or 0 _ _ (gate-powers-length d n next G ∙ gate-powers-length d n first F ∙ sym (gate-powers-length d n both F))
      (λ s l. by s (dec_lt s (2 * n)))
    where
      G : List ℕ
      G = gate_powers d n first F

      p_g : Powers d n G
      p_g = gate-powers d n low first F a p

      by : (s : ℕ) → Dec (s < 2 * n) → get_or (gate_powers d n next G) s 0 ≡ get_or (gate_powers d n both F) s 0
      by s (yes l) =
          let k : s < n + n = omega arith in
          small_cong
          (cong_trans ((acts dim next b).powers G p_g.room s k)
          (cong_trans ((acts dim next b).hom.resp (bytes G) (mapped d n first (bytes F)) ((acts dim first a).powers F p.room) s k)
          (cong_trans (m.powers (bytes F) s) (cong_sym ((acts dim both c).powers F p.room s k)))))
          ((gate-powers d n low next G b p_g).below s l)
          ((gate-powers d n low both F c p).below s l)
      by s (no l) =
          (gate-past d n next G b).kept s (omega arith)
          ∙ (gate-past d n first F a).kept s (omega arith)
          ∙ sym ((gate-past d n both F c).kept s (omega arith))
