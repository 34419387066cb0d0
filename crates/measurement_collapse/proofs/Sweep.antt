-- The rows that change are listed, and a sweep over the list with the two rows put after it is the measurement.
-- Assumes nothing.
use mathlib.Core.Path.{◌≡◌, refl, sym, ap, ◌∙◌}
use mathlib.Core.Bool.{Bool, true, false, not, cond}
use mathlib.Core.List.{List, [], ◌∷◌, ◌++◌}
use mathlib.Core.Logic.{◌≢◌, ⊎_elim}
use Prim.Native.Nat.{ℕ, zero, suc, ◌+◌, ◌-◌, ◌*◌, ◌<◌, ◌≤◌}
use native.Mathlib.Nat.{eq-or-lt_of_le, not-suc-le-zero, le_refl}
use native.Mathlib.Decide.{ℕ_discrete}
use native.Mathlib.Numerals.{add-one}
use native.Mathlib.Omega.{arith}
use lib.Dec.{eqb}
use lib.ListN.{length, get_or, set, take, drop, length-append, take-append-drop, get_or-append}
use mir.Val.{bool_byte}
use lib.Seq.{take-suc, take-set-le, take-suc-set, get_or-append_seam, drop-drop}
use borrow.Author.Tests.{eqb-true, eq-eqb, ne_eqb}
use Rattle.modular.specs.Modular.{neg}
use Rattle.modular.specs.Dimension.{inverse}
use Rattle.modular.proofs.Residue.{neg-less}
use Rattle.row.specs.Row.{Row, x_of, power}
use Rattle.row.specs.Generators.{z_with}
use Rattle.row.proofs.Laws.{product-row, power-row, unit_row}
use Rattle.tableau.specs.Tableau.{Tableau, part, put, row, each_row, on_rows}
use Rattle.tableau.proofs.Parts.{Keeps, drop-put, same, on-at, on-rest, row_in, row_room, row_put_lem, row_other, row_at, tableau-row, tableau-put}
use Rattle.measurement.specs.Collapse.{collapse_row, collapse}
use Rattle.measurement.proofs.Collapsed.{collapsed-keeps}
use Rattle.measurement_collapse.specs.FreeMeasurement.{cleared, row_put}
use Rattle.measurement_collapse.specs.Changing.{selected, on_selected, is_changing}
use Rattle.measurement_collapse.proofs.Exponents.{stays}

pub one_at_most : (b : Bool) → bool_byte b ≤ 1
one_at_most true = omega arith
one_at_most false = omega arith

module _ (test : ℕ → Bool) where
  -- one turn of a loop that lists: m is written at the end, which it moves if it is selected
  pub chosen_more :
      (m : ℕ) (l : List ℕ) (count r : ℕ) →
      count < length l →
      take count l ≡ selected test m →
      r ≡ bool_byte (test m) →
      take (count + r) (set l count m) ≡ selected test (m + 1)
  unfolding selected
  chosen_more m l count r h e k = rw (k, add-one m) (by (test m))
    where
      by : (b : Bool) → take (count + bool_byte b) (set l count m) ≡ cond b (selected test m ++ (m ∷ [])) (selected test m)
      by true = rw (add-one count) (take-suc-set l count m h ∙ ap (λ (x : List ℕ). x ++ (m ∷ [])) e)
      by false =
          let q : count + 0 ≡ count = omega arith in
          rw q (take-set-le count l count m (le_refl count) ∙ e)

  pub chosen_less : (m j : ℕ) → j < length (selected test m) → get_or (selected test m) j 0 < m
  unfolding selected
  chosen_less zero j h = absurd (not-suc-le-zero h)
  chosen_less (suc m) j h = by (test m) (chosen_less m j) h
    where
      xs : List ℕ
      xs = selected test m

      by : (b : Bool) → (j < length xs → get_or xs j 0 < m) → j < length (cond b (xs ++ (m ∷ [])) xs)
          → get_or (cond b (xs ++ (m ∷ [])) xs) j 0 < suc m
      by true ih l =
          let g : j ≤ length xs = omega (arith, length-append xs (m ∷ [])) in
          ⊎_elim (λ e. omega (arith, ap (λ (x : ℕ). get_or (xs ++ (m ∷ [])) x 0) e ∙ get_or-append_seam xs m [] 0))
          (λ k. omega (arith, get_or-append xs (m ∷ []) 0 j k, ih k))
          (eq-or-lt_of_le g)
      by false ih l = omega (arith, ih l)

-- f done to row i, for each i of a list
unfoldable pub sweep : (List ℕ → List ℕ) → ℕ → List ℕ → List ℕ → List ℕ
sweep f w t [] = t
sweep f w t (i ∷ is) = sweep f w (put (i * w) w (f (part (i * w) w t)) t) is

module _ (f : List ℕ → List ℕ) (w : ℕ) (t₀ : List ℕ) where
  sweep-last : (t is : List ℕ) (i : ℕ)
      → sweep f w t (is ++ (i ∷ [])) ≡ put (i * w) w (f (part (i * w) w (sweep f w t is))) (sweep f w t is)
  unfolding sweep
  sweep-last t [] i = refl
  sweep-last t (x ∷ is) i = sweep-last (put (x * w) w (f (part (x * w) w t)) t) is i

  -- one turn
  pub sweep-more :
      (l : List ℕ) (j : ℕ) (t u : List ℕ) →
      j < length l →
      t ≡ sweep f w t₀ (take j l) →
      u ≡ put (get_or l j 0 * w) w (f (part (get_or l j 0 * w) w t)) t →
      u ≡ sweep f w t₀ (take (j + 1) l)
  sweep-more l j t u h e k =
      let i = get_or l j 0 in
      rw (add-one j, take-suc l j 0 h)
      (k ∙ ap (λ (x : List ℕ). put (i * w) w (f (part (i * w) w x)) x) e ∙ sym (sweep-last t₀ (take j l) i))

  put_same : (s : ℕ) (t : List ℕ) → put s w (part s w t) t ≡ t
  unfolding part put
  put_same s t = ap (λ (x : List ℕ). take s t ++ x) (take-append-drop w (drop s t)) ∙ take-append-drop s t

  -- the rows that are not selected stay
  pub sweep-chosen : (test : ℕ → Bool) (m : ℕ) → sweep f w t₀ (selected test m) ≡ each_row (on_selected test f) w t₀ m
  unfolding sweep selected each_row on_selected
  sweep-chosen test zero = refl
  sweep-chosen test (suc m) = by (test m) (sweep-chosen test m)
    where
      u : List ℕ
      u = each_row (on_selected test f) w t₀ m

      by : (b : Bool) → sweep f w t₀ (selected test m) ≡ u
          → sweep f w t₀ (cond b (selected test m ++ (m ∷ [])) (selected test m)) ≡ put (m * w) w (cond b (f (part (m * w) w u)) (part (m * w) w u)) u
      by true ih = sweep-last t₀ (selected test m) m ∙ ap (λ (x : List ℕ). put (m * w) w (f (part (m * w) w x)) x) ih
      by false ih = ih ∙ sym (put_same (m * w) u)

-- bytes past a row that is put
drop_later : (m s w : ℕ) (ys t : List ℕ) → s + w ≤ m → s + w ≤ length t → length ys ≡ w → drop m (put s w ys t) ≡ drop m t
drop_later m s w ys t l r e =
    let k : m ≡ s + w + (m - (s + w)) = omega arith in
    ap (λ (x : ℕ). drop x (put s w ys t)) k
    ∙ sym (drop-drop (m - (s + w)) (s + w) (put s w ys t))
    ∙ ap (drop (m - (s + w))) (drop-put s w ys t r e)
    ∙ drop-drop (m - (s + w)) (s + w) t
    ∙ ap (λ (x : ℕ). drop x t) (sym k)

pub cleared-row : (d n q : ℕ) (pivot v : List ℕ) → 0 < d → Row d n (cleared d n q pivot v)
unfolding cleared
cleared-row d n q pivot v h = product-row d n v _ h

-- u is t after the sweep, and inv is 1/e: what is left is to put destabilizer k and stabilizer k in their places
module _
    (d n q k choice inv : ℕ) (pivot t u : List ℕ) (ok : Tableau d n t) (low : 1 < d) (lq : q < n) (lk : k < n)
    (inverts : inv ≡ inverse d (x_of pivot q)) (done : Tableau d n u)
    (swept : u ≡ on_rows n (on_selected (is_changing n q k t) (cleared d n q pivot)) t) where
  abbrev clearing : ℕ → List ℕ → List ℕ
  clearing = on_selected (is_changing n q k t) (cleared d n q pivot)

  abbrev partner : List ℕ
  partner = power d n inv pivot

  abbrev measured : List ℕ
  measured = z_with n q (neg d choice)

  abbrev first : List ℕ
  first = row_put n k partner u

  keeps : Keeps (2 * n + 1) clearing
  unfolding on_selected
  keeps = record { keeps = λ i v e. by (is_changing n q k t i) v e }
    where
      by : (b : Bool) (v : List ℕ) → length v ≡ 2 * n + 1 → length (cond b (cleared d n q pivot v) v) ≡ 2 * n + 1
      by true v e = (cleared-row d n q pivot v (omega arith)).len
      by false v e = e

  partner-row : Row d n partner
  partner-row = power-row d n inv pivot (omega arith)

  measured-row : Row d n measured
  unfolding z_with
  measured-row = unit_row d n (n + q) (neg d choice) low (neg-less d choice (omega arith))

  first-tableau : Tableau d n first
  first-tableau = tableau-put d n u done k (omega arith) partner partner-row

  -- a row that is neither of them
  other : (i : ℕ) → i < 2 * n → i ≢ k → i ≢ n + k → row n u i ≡ collapse_row d n q k choice pivot i (row n t i)
  unfolding on_selected collapse_row cleared
  other i l a b =
      rw (swept, on-at n clearing keeps t ok.room i l, ne_eqb i k a, ne_eqb i (n + k) b)
      (by (eqb (get_or t (i * (2 * n + 1) + q) 0) 0) refl)
    where
      by : (x : Bool) → eqb (get_or t (i * (2 * n + 1) + q) 0) 0 ≡ x
          → cond (not x) (cleared d n q pivot (row n t i)) (row n t i) ≡ cleared d n q pivot (row n t i)
      by true e = sym (stays d n q pivot (row n t i) (tableau-row d n t ok i l) (row_at n t i q (omega arith) ∙ eqb-true _ 0 e))
      by false e = refl

  each : (i : ℕ) → i < 2 * n → Dec (i ≡ n + k) → Dec (i ≡ k)
      → row n (row_put n (n + k) measured first) i ≡ collapse_row d n q k choice pivot i (row n t i)
  unfolding collapse_row
  each i l (yes e) x =
      let c : n + k ≢ k = λ z. omega arith in
      rw (e, ne_eqb (n + k) k c, eq-eqb (n + k) (n + k) refl)
      (row_put_lem n first first-tableau.room (n + k) (omega arith) measured measured-row.len)
  each i l (no a) (yes e) =
      row_other n first first-tableau.room (n + k) (omega arith) measured measured-row.len i a
      ∙ rw (e, eq-eqb k k refl, ← inverts) (row_put_lem n u done.room k (omega arith) partner partner-row.len)
  each i l (no a) (no b) =
      row_other n first first-tableau.room (n + k) (omega arith) measured measured-row.len i a
      ∙ row_other n u done.room k (omega arith) partner partner-row.len i b
      ∙ other i l b a

  pub measured-is : (v : List ℕ) → v ≡ row_put n (n + k) measured first → pivot ≡ row n t (n + k)
      → (v ≡ collapse d n q k choice t) × Tableau d n v
  unfolding collapse
  measured-is v c e =
      let f = collapsed-keeps d n q k choice pivot low in
      let w = 2 * n + 1 in (
        c
            ∙ same w _ _ (2 * n)
            (λ i l. each i l (ℕ_discrete i (n + k)) (ℕ_discrete i k) ∙ sym (on-at n _ f t ok.room i l))
            (drop_later _ _ w measured first (row_in (n + k) (2 * n) w (omega arith)) (row_room n first first-tableau.room (n + k) (omega arith)) measured-row.len
            ∙ drop_later _ _ w partner u (row_in k (2 * n) w (omega arith)) (row_room n u done.room k (omega arith)) partner-row.len
            ∙ ap (drop (2 * n * w)) swept
            ∙ on-rest n clearing keeps t ok.room
            ∙ sym (on-rest n _ f t ok.room))
            ∙ ap (λ (x : List ℕ). on_rows n (collapse_row d n q k choice x) t) e,
        rw c (tableau-put d n first first-tableau (n + k) (omega arith) measured measured-row),
      )
