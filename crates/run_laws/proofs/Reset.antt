-- After a reset a look is certain 0.
-- Assumes nothing.
use mathlib.Core.Path.{◌≡◌, refl, sym, ap, ◌∙◌}
use mathlib.Core.Logic.{inr}
use mathlib.Core.List.{List}
use Prim.Native.Nat.{ℕ, zero, suc, ◌+◌, ◌*◌, ◌%◌, ◌<◌}
use native.Mathlib.Nat.{mod-lt}
use native.Mathlib.Omega.{arith}
use lib.ListN.{get_or, set, length-replicate, get_or-replicate}
use lib.Seq.{get_or-set_same, get_or-set_other}
use Rattle.congruence.proofs.Congruence.{cong_eq, cong_sym, cong_trans, cong_mod, small_cong}
use Rattle.modular.specs.Modular.{neg}
use Rattle.modular.specs.Dimension.{Dimension}
use Rattle.row.specs.Row.{x_of, z_of}
use Rattle.row.specs.Generators.{z_with}
use Rattle.row_laws.proofs.Reading.{neg_small}
use Rattle.operation.specs.Error.{error_rows, error_frame, minus_x}
use Rattle.operation.proofs.Error.{minus-allowed}
use Rattle.validity.specs.Validity.{Valid}
use Rattle.validity.proofs.Exactly.{valid-tableau}
use Rattle.measurement.specs.declared.Look.{Look}
use Rattle.measurement.specs.declared.Look.TheVariants.{Free, Certain}
use Rattle.measurement.specs.Look.{look}
use Rattle.measurement.specs.Collapse.{collapse}
use Rattle.measurement_laws.specs.Stabilizers.{holds}
use Rattle.measurement_laws.proofs.Certain.{certain-exactly}
use Rattle.measurement_laws.proofs.Free.{collapse-keeps-valid}
use Rattle.measurement_laws.proofs.Generates.{collapse_generates}
use Rattle.runs.specs.Direct.{reset_rows}
use Rattle.runs.specs.Frame.{no_frame, shift_rows}
use Rattle.runs.proofs.Frames.{no-frame}
use Rattle.run_laws.specs.Carrying.{ResetClears}
use Rattle.run_laws.proofs.Rows.{shifted_none, shifted-error}
use Rattle.run_laws.proofs.Corrections.{cancels}
use Rattle.run_laws.proofs.Looks.{Both, free, certain, both, neg-neg}

-- what is seen of shifted rows, where the rows' own measurement is certain
seen : {d n q o : ℕ} {t F : List ℕ} {a b : Look} → Both d n t q F a b → a ≡ (Certain o) → b ≡ (Certain ((o + x_of F q) % d))
seen (free k l y) e = cc
seen {d = d} {q = q} {F = F} (certain x) e = ap (λ (z : ℕ). (Certain ((z + x_of F q) % d))) (inside e)
  where
    inside : {x y : ℕ} → ◌≡◌ {A = Look} ((Certain x)) ((Certain y)) → x ≡ y
    inside e = cc

module _ (e n : ℕ) (dim : Dimension (suc e)) (q : ℕ) (l : q < n) where
  abbrev d : ℕ
  d = suc e

  low : 0 < d
  low = omega arith

  -- X^−o as a frame
  abbrev G : ℕ → List ℕ
  G o = error_frame d n (minus_x d q o) (no_frame n)

  power_of_lem : (o : ℕ) → x_of (G o) q ≡ neg d o
  unfolding error_frame
  power_of_lem o =
      get_or-set_other (set (no_frame n) q ((x_of (no_frame n) q + neg d o) % d)) (n + q) q ((z_of n (no_frame n) q + 0) % d) 0 (λ x. omega arith)
      ∙ get_or-set_same (no_frame n) q ((x_of (no_frame n) q + neg d o) % d) 0 (omega (arith, length-replicate {A = ℕ} (2 * n) 0))
      ∙ ap (λ (x : ℕ). (x + neg d o) % d) (get_or-replicate {A = ℕ} (2 * n) q 0 0 (omega arith))
      ∙ small_cong (cong_trans (cong_sym (cong_mod d (0 + neg d o))) (cong_eq d (omega arith))) (mod-lt _ low) (neg_small low o)

  cleared : (o : ℕ) (t : List ℕ) → Valid d n t → look d n t q ≡ (Certain o) → look d n (error_rows d n (minus_x d q o) t) q ≡ (Certain 0)
  cleared o t ok h =
      let tab = valid-tableau d n t ok in
      let none = shifted_none d n (no_frame n) t tab (λ s k. get_or-replicate {A = ℕ} (2 * n) s 0 0 k) in
      let same : error_rows d n (minus_x d q o) t ≡ shift_rows d n (G o) t =
      ap (error_rows d n (minus_x d q o)) (sym none)
      ∙ shifted-error d n dim (no_frame n) t (no-frame d n low).powers tab (minus_x d q o) (minus-allowed d n q o low l) in
      ap (λ (u : List ℕ). look d n u q) same
      ∙ seen (both d n dim t ok (G o) q l) h
      ∙ ap (λ (x : ℕ). (Certain ((o + x) % d))) (power_of_lem o)
      ∙ ap (λ (x : ℕ). (Certain x)) (cancels e o)

  -- what was measured is certain then
  measured_again : (m k : ℕ) (t : List ℕ) → m < d → Valid d n t → look d n t q ≡ (Free k) → look d n (collapse d n q k m t) q ≡ (Certain m)
  measured_again m k t lm ok h =
      (certain-exactly d n dim (collapse d n q k m t) (collapse-keeps-valid d n dim t ok q k m l lm h) q (neg d m) l (neg_small low m)).0
      ((collapse_generates d n dim t ok q k m l lm h (z_with n q (neg d m))).1 (holds (inr refl)))
      ∙ ap (λ (x : ℕ). (Certain x)) (sym (neg-neg e lm))

pub reset-clears : ResetClears
unfolding reset_rows
reset-clears zero n dim choices c q t ok l lm = absurd (omega (arith, dim.low))
reset-clears (suc e) n dim choices c q t ok l lm = by (look (suc e) n t q) refl
  where
    m : ℕ
    m = get_or choices c 0

    by : (x : Look) → look (suc e) n t q ≡ x → look (suc e) n (reset_rows (suc e) n choices c q t x) q ≡ Certain 0
    by (Free k) h =
        cleared e n dim q l m (collapse (suc e) n q k m t) (collapse-keeps-valid (suc e) n dim t ok q k m l lm h) (measured_again e n dim q l m k t lm ok h)
    by (Certain outcome) h = cleared e n dim q l outcome t ok h
