-- An error is conjugation by its X^p Z^s on rows, and adds its powers to a frame.
-- Assumes nothing.
use mathlib.Core.Path.{◌≡◌, sym, ap, ◌∙◌}
use mathlib.Core.Bool.{true}
use mathlib.Core.List.{List}
use Prim.Native.Nat.{ℕ, zero, suc, ◌+◌, ◌*◌, ◌%◌, ◌<◌}
use native.Mathlib.Nat.{zero-add, mod-lt}
use native.Mathlib.Omega.{arith}
use lib.ListN.{get_or}
use Rattle.congruence.proofs.Congruence.{Cong, cong_refl, cong_eq, cong_sym, cong_trans, cong_add, cong_mod, mod_cong, small_cong}
use Rattle.symplectic.proofs.Pairing.{half-none-left, pair-add-left}
use Rattle.symplectic.proofs.Gates.{put, put_rel}
use Rattle.modular.specs.Modular.{neg}
use Rattle.row.specs.Row.{Row, Powers, x_of, z_of, phase_of, product, pairing}
use Rattle.row_laws.specs.Scalar.{none, scalar}
use Rattle.row_laws.proofs.Reading.{bytes, Denotes, Reads, denotes, denotes-self, reads_self, positive, unique, reads_same, made, reads-scalar, reads-product, neg_is, pairing-small, pairing-means, pairing-is}
use Rattle.row_laws.proofs.Laws.{associative, exchange}
use Rattle.operation.specs.declared.WeylError.{WeylError}
use Rattle.operation.specs.Gate.{with_phase}
use Rattle.operation.specs.Error.{error_allowed, error_row, error_frame}
use Rattle.operation.proofs.Operands.{error-facts}
use Rattle.operation.proofs.Error.{error-powers}
use Rattle.conjugation.specs.Generators.{operator}
use Rattle.conjugation.specs.Conjugation.{ErrorConjugates, ErrorPairs, ErrorOnFrame, ErrorFramePairs}
use Rattle.conjugation.proofs.Put.{put_self, stored}
use Rattle.conjugation.proofs.On.{half-to, half-from, xz_on}

-- A phase that gains r is a product with ω^r.
phase-product : {d n r : ℕ} {v : List ℕ} → r < d → Row d n v → with_phase n ((phase_of n v + r) % d) v ≡ product d n (scalar n r) v
phase-product {d} {n} {r} {v} l row =
    let low = positive row in
    unique
    (made d n v (bytes v) _ (r + phase_of n v) row.len (λ s k. row.below s (omega arith)) (λ s k. cong_refl d _) (mod-lt _ low)
    (cong_trans (cong_sym (cong_mod d _)) (cong_eq d (omega arith))))
    (reads_same (λ s. zero-add _) (cong_eq d (omega (arith, half-none-left n (bytes v)))) (reads-product low (reads-scalar d n r l) (reads_self row)))

module _ (m n : ℕ) (low : 1 < suc m) (e : WeylError) (h : error_allowed (suc m) n e ≡ true) where
  abbrev d : ℕ
  d = suc m

  abbrev q : ℕ
  q = e.qudit

  l : q < n
  l = (error-facts d n e h).0

  -- The error's X^p Z^s, and its pairing with any row.
  reads-operator : Reads d n (operator d n e) (put n q e.p e.s none) 0
  unfolding operator
  reads-operator = (xz_on low l e.p e.s).reads

  operator-pairs : (v : List ℕ) → Cong d (e.s * x_of v q + neg d (e.p * z_of n v q)) (pairing d n (operator d n e) v)
  operator-pairs v =
      cong_trans (cong_add (cong_refl d _) (neg_is m _))
      (cong_trans
      (cong_eq d (omega (arith, half-from l e.p e.s (bytes v), ap (λ (z : ℕ). m * z) (half-to l e.p e.s (bytes v)))))
      (cong_sym (pairing-means (denotes reads-operator) (denotes-self d n v))))

  row-gains : (v : List ℕ) → error_row d n e v ≡ with_phase n ((phase_of n v + pairing d n (operator d n e) v) % d) v
  unfolding error_row
  row-gains v = ap (λ (r : ℕ). with_phase n r v) (mod_cong (cong_add (cong_refl d _) (operator-pairs v)))

  -- A frame gains the error's powers.
  module _ (F : List ℕ) (powers : Powers d n F) where
    frame-gains : (s : ℕ) → s < n + n → Cong d (get_or (error_frame d n e F) s 0) (get_or F s 0 + get_or (operator d n e) s 0)
    unfolding error_frame
    frame-gains s k =
        cong_trans (cong_eq d (stored l F powers.room _ _ s))
        (cong_trans
        (put_rel n q (λ x y z. Cong d x (y + z)) _ _ (bytes F) (bytes F q) (bytes F (n + q)) (bytes F) e.p e.s none s
        (cong_sym (cong_mod d _))
        (cong_sym (cong_mod d _))
        (cong_eq d (omega arith)))
        (cong_add (cong_eq d (put_self l (bytes F) s)) (cong_sym (reads-operator.powers s k))))

    frame-means : Denotes d n (error_frame d n e F) (λ s. bytes F s + bytes (operator d n e) s) (phase_of n (error_frame d n e F))
    frame-means = record { powers = frame-gains; phase = cong_refl d _ }

pub error-pairs : ErrorPairs
error-pairs zero n dim e h v row = absurd (omega (arith, dim.low))
error-pairs (suc m) n dim e h v row = row-gains m n (omega (arith, dim.low)) e h v

-- The operator and the row exchange with ω to their pairing.
pub error_conjugates : ErrorConjugates
error_conjugates d n dim e h v row =
    let low = positive row in
    exchange d n low (operator d n e) v
    ∙ sym (associative d n low (scalar n (pairing d n (operator d n e) v)) v (operator d n e))
    ∙ ap (λ (x : List ℕ). product d n x (operator d n e)) (sym (error-pairs d n dim e h v row ∙ phase-product (pairing-small low n _ _) row))

pub error-on-frame : ErrorOnFrame
error-on-frame zero n dim e h F powers s l = absurd (omega (arith, dim.low))
error-on-frame (suc m) n dim e h F powers s l =
    let low : 0 < suc m = omega arith in
    small_cong (cong_trans (frame-gains m n (omega (arith, dim.low)) e h F powers s (omega arith)) (cong_mod _ _))
    ((error-powers (suc m) n e F low powers).below s l)
    (mod-lt _ low)

pub error-frame-pairs : ErrorFramePairs
error-frame-pairs zero n dim e h F powers v = absurd (omega (arith, dim.low))
error-frame-pairs (suc m) n dim e h F powers v =
    let low : 0 < suc m = omega arith in
    small_cong
    (cong_trans (pairing-means (frame-means m n (omega (arith, dim.low)) e h F powers) (denotes-self _ n v))
    (cong_trans (cong_eq _ (pair-add-left m n (bytes F) (bytes (operator (suc m) n e)) (bytes v)))
    (cong_trans (cong_sym (cong_add (pairing-is m n F v) (pairing-is m n (operator (suc m) n e) v))) (cong_mod _ _))))
    (pairing-small low n _ _)
    (mod-lt _ low)
