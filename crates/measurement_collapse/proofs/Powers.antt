-- The powers of the pivot, made one from the other.
-- Assumes nothing.
use Rattle.std.proofs.Common.{◌≡◌, ℕ, ◌+◌, ◌*◌, ◌%◌, ◌<◌, ◌≤◌, List, [], ◌∷◌, ◌++◌, length, get_or, set, take, drop, replicate, add-one, refl, sym, ap, ◌∙◌, arith, get_or-set_other, get_or-set_same}
use mathlib.Core.Logic.{⊎_elim}
use native.Mathlib.Nat.{eq-or-lt_of_le, add-mod-mod}
use lib.ListN.{length-replicate, get_or-replicate}
use lib.Seq.{take_at, take-suc-set, ext_get_or}
use Rattle.row.specs.Row.{Row, x_of, phase_of, dot, tab, row_of, sum_at, times_at, product, power}
use Rattle.row.specs.Fill.{filled}
use Rattle.row.specs.Multiple.{Multiple}
use Rattle.row.proofs.Fill.{tab-length, filled-length, filled-get, row-length, row-power, row-phase}
use Rattle.row.proofs.Scaled.{phase_multiple}
use Rattle.tableau.proofs.Parts.{take-replicate}
use Rattle.row_laws.specs.Scalar.{none, scalar}
use Rattle.row_laws.proofs.Reading.{positive}
use Rattle.row_laws.proofs.Laws.{power_zero, power-one, powers-add}
use Rattle.measurement_collapse.specs.FreeMeasurement.{PowersOf, Widened}

pub widened : (n : ℕ) (pivot xs₀ : List ℕ) {xs : List ℕ} → n ≤ length xs₀ → xs ≡ filled (x_of pivot) xs₀ n → Widened n pivot xs
widened n pivot xs₀ l e =
    rw e (record { room = omega (arith, filled-length (x_of pivot) xs₀ n l); same = λ j b. filled-get (x_of pivot) xs₀ n j b })

-- with its phase stored behind the powers, the front of a longer list is the row
pub filled_front : (f : ℕ → ℕ) (v₀ : List ℕ) (n r : ℕ) → 2 * n < length v₀ → take (2 * n + 1) (set (filled f v₀ (2 * n)) (2 * n) r) ≡ row_of n f r
unfolding filled row_of
filled_front f v₀ n r l =
    rw add-one
    (take-suc-set (tab f (2 * n) ++ drop (2 * n) v₀) (2 * n) r (omega (arith, filled-length f v₀ (2 * n)))
    ∙ ap (λ (x : List ℕ). x ++ (r ∷ [])) (take_at (tab f (2 * n)) _ (2 * n) (tab-length f (2 * n))))

-- The next power is the pivot times the one before.
module _ (d n : ℕ) (pivot : List ℕ) (r : Row d n pivot) (h : ℕ) where
  power-more : power d n (h + 1) pivot ≡ product d n pivot (power d n h pivot)
  power-more =
      let e : h + 1 ≡ 1 + h = omega arith in
      rw (e, ← powers-add d n (positive r) 1 h pivot, power-one d n pivot r)

  -- its powers are sums
  pub next-power : (x : ℕ) → x ≡ phase_of n (power d n (h + 1) pivot) → row_of n (sum_at d pivot (power d n h pivot)) x ≡ power d n (h + 1) pivot
  unfolding product
  next-power x e = rw (e, power-more) (ap (row_of n (sum_at d pivot (power d n h pivot))) (row-phase n (sum_at d pivot (power d n h pivot)) _))

  pub power-multiple : (xs : List ℕ) → Widened n pivot xs → Multiple d n h xs (power d n h pivot)
  unfolding power
  power-multiple xs w =
      record {
        base = record { room = w.room; below = λ j l. rw (w.same j l) (r.below j (omega arith)) };
        each = λ j l. row-power n (times_at d h pivot) _ j (omega arith) ∙ ap (λ (x : ℕ). h * x % d) (sym (w.same j l));
      }

  -- its phase gains r + h·Σ a·b
  pub phase-more : (x g : ℕ) → x ≡ phase_of n (power d n h pivot) → g ≡ (phase_of n pivot + h * dot n pivot pivot n) % d
      → (x + g) % d ≡ phase_of n (power d n (h + 1) pivot)
  unfolding product
  phase-more x g a e =
      let own : Widened n pivot pivot = record { room = omega (arith, r.len); same = λ j l. refl } in
      let s = h * dot n pivot pivot n in
      let o : x + (phase_of n pivot + s) ≡ phase_of n pivot + x + s = omega arith in
      rw (power-more, row-phase n (sum_at d pivot (power d n h pivot)) _, ← a)
      (ap (λ (z : ℕ). (x + z) % d) e
      ∙ add-mod-mod x (phase_of n pivot + s) d
      ∙ ap (λ (z : ℕ). z % d) o
      ∙ phase_multiple d n h pivot pivot (power d n h pivot) (power-multiple pivot own) (phase_of n pivot + x))

-- the first entry behind the powers made so far is the next one
parted : (a b : List (List ℕ)) (v : List ℕ) → set (a ++ b) (length a) v ≡ a ++ set b 0 v
parted [] b v = refl
parted (x ∷ a) b v = ap (λ (z : List (List ℕ)). x ∷ z) (parted a b v)

module _ (d n : ℕ) (pivot : List ℕ) where
  -- power 0 is zeros
  pub power-none : 0 < d → replicate (2 * n + 1) 0 ≡ power d n 0 pivot
  unfolding scalar
  power-none p =
      rw (power_zero d n p pivot)
      (ext_get_or 0 _ _ (length-replicate {A = ℕ} (2 * n + 1) 0 ∙ sym (row-length n none 0))
      (λ s b. let l : s < 2 * n + 1 = omega (arith, length-replicate {A = ℕ} (2 * n + 1) 0) in
      get_or-replicate (2 * n + 1) s 0 0 l ∙ sym (⊎_elim (λ e. rw e (row-phase n none 0)) (row-power n none 0 s) (eq-or-lt_of_le (omega arith)))))

  pub phase-none : 0 < d → phase_of n (power d n 0 pivot) ≡ 0
  phase-none p = rw (← power-none p) (get_or-replicate (2 * n + 1) (2 * n) 0 0 (omega arith))

  pub powers-none : (p : List (List ℕ)) → 0 < d → n ≤ 64 → get_or p 0 [] ≡ replicate 144 0 → PowersOf d n pivot p 1
  powers-none p l small e =
      record {
        at_place = λ h k. let z : h ≡ 0 = omega arith in
            rw (z, e, take-replicate {A = ℕ} 0 (2 * n + 1) 144 (omega arith)) (power-none l);
      }

  -- one more
  pub powers_more : (p : List (List ℕ)) (h : ℕ) (v : List ℕ) → PowersOf d n pivot p (h + 1) → h + 1 < length p → take (2 * n + 1) v ≡ power d n (h + 1) pivot
      → PowersOf d n pivot (set p (h + 1) v) (h + 1 + 1)
  powers_more p h v q l e =
      record {
        at_place = λ g k. let c : g ≤ h + 1 = omega arith in
            ⊎_elim
            (λ x. rw x (ap (take (2 * n + 1)) (get_or-set_same p (h + 1) v [] l) ∙ e))
            (λ b. ap (take (2 * n + 1)) (get_or-set_other p (h + 1) g v [] (λ x. omega arith)) ∙ q.at_place g b)
            (eq-or-lt_of_le c);
      }

  -- one more, made in the part behind those that are there
  pub powers_joined : (p a b : List (List ℕ)) (h : ℕ) (v : List ℕ) → p ≡ a ++ b → length a ≡ h + 1 → PowersOf d n pivot p (h + 1) → h + 1 < length p
      → take (2 * n + 1) v ≡ power d n (h + 1) pivot → PowersOf d n pivot (a ++ set b 0 v) (h + 1 + 1)
  powers_joined p a b h v e l q k t = rw (← parted a b v, l, ← e) (powers_more p h v q k t)
