-- Rows of a tableau: what is put is there, the rest stays, and equal rows with equal rests are equal tableaus.
-- Assumes nothing.
use mathlib.Core.Path.{◌≡◌, refl, sym, ap, ap₂, ◌∙◌}
use mathlib.Core.List.{List, ◌∷◌, ◌++◌}
use mathlib.Core.Logic.{◌≢◌, ⊎_elim}
use Prim.Native.Nat.{ℕ, zero, suc, ◌+◌, ◌-◌, ◌*◌, ◌/◌, ◌%◌, ◌≤◌, ◌<◌}
use native.Mathlib.Nat.{eq-or-lt_of_le, le_of_suc-le-suc, not-suc-le-zero, suc-mul, mul-le-mul_right, le_of_lt, le_refl, le_antisymm, mod-lt, div-add-mod', div-lt_iff_lt-mul}
use native.Mathlib.Decide.{dec_lt, ℕ_discrete}
use native.Mathlib.Numerals.{add-one}
use native.Mathlib.Omega.{arith}
use lib.ListN.{length, get_or, take, drop, length-drop, length-append, take-append-drop, replicate, get_or-append}
use lib.Seq.{length-take-le, take_at, drop_at, take-add, take-take, drop-drop, drop-append-le, take-append-le, get_or-take, get_or-drop, get_or-append-add}
use Rattle.row.specs.Row.{Row}
use Rattle.tableau.specs.Tableau.{Tableau, part, put, each_row, row, on_rows}

-- room that is cut to the bytes needed
pub take-replicate : {A : Type 0} (a : A) (k m : ℕ) → k ≤ m → take k (replicate m a) ≡ replicate k a
take-replicate a zero m h = refl
take-replicate a (suc k) zero h = absurd (omega arith)
take-replicate a (suc k) (suc m) h = ap (◌∷◌ a) (take-replicate a k m (le_of_suc-le-suc h))

-- row i ends before row m begins
pub row_in : (i m w : ℕ) → i < m → i * w + w ≤ m * w
row_in i m w h = omega (arith, mul-le-mul_right w h, suc-mul i w)

pub part_length : (s w : ℕ) (t : List ℕ) → s + w ≤ length t → length (part s w t) ≡ w
unfolding part
part_length s w t h = length-take-le w (drop s t) (omega (arith, length-drop s t))

pub part_at : (s w : ℕ) (t : List ℕ) (i : ℕ) → i < w → get_or (part s w t) i 0 ≡ get_or t (s + i) 0
unfolding part
part_at s w t i h = rw (get_or-take, get_or-drop)

pub put-length : (s w : ℕ) (ys t : List ℕ) → s + w ≤ length t → length ys ≡ w → length (put s w ys t) ≡ length t
unfolding put
put-length s w ys t h e = simp (length-append, length-drop) (omega (arith, length-take-le s t (omega arith)))

-- what was put is there
pub part-put : (s w : ℕ) (ys t : List ℕ) → s ≤ length t → length ys ≡ w → part s w (put s w ys t) ≡ ys
unfolding part put
part-put s w ys t h e =
    rw (drop_at (take s t) (ys ++ drop w (drop s t)) s (length-take-le s t h)) (take_at ys (drop w (drop s t)) w e)

-- what lies before it is as it was
drop-take : (s k : ℕ) (t : List ℕ) → s ≤ length t → drop s (take (s + k) t) ≡ take k (drop s t)
drop-take s k t h = rw take-add (drop_at (take s t) (take k (drop s t)) s (length-take-le s t h))

pub part-before : (s w a : ℕ) (ys t : List ℕ) → s + w ≤ a → a ≤ length t → part s w (put a w ys t) ≡ part s w t
unfolding part put
part-before s w a ys t h g =
    let e : a ≡ s + (a - s) = omega arith in
    let f : drop s (take a t) ≡ take (a - s) (drop s t) =
    ap (λ (x : ℕ). drop s (take x t)) e ∙ drop-take s (a - s) t (omega arith) in
    ap (take w) (drop-append-le s (take a t) _ (omega (arith, length-take-le a t g)))
    ∙ take-append-le w (drop s (take a t)) _ (omega (arith, length-drop s (take a t), length-take-le a t g))
    ∙ ap (take w) f
    ∙ take-take w (a - s) (drop s t) (omega arith)

-- and what lies after it
pub drop-put : (a w : ℕ) (ys t : List ℕ) → a + w ≤ length t → length ys ≡ w → drop (a + w) (put a w ys t) ≡ drop (a + w) t
unfolding put
drop-put a w ys t g e =
    sym (drop-drop w a (take a t ++ (ys ++ drop w (drop a t))))
    ∙ ap (drop w) (drop_at (take a t) (ys ++ drop w (drop a t)) a (length-take-le a t (omega arith)))
    ∙ drop_at ys (drop w (drop a t)) w e
    ∙ drop-drop w a t

pub part-after : (s w a : ℕ) (ys t : List ℕ) → a + w ≤ s → a + w ≤ length t → length ys ≡ w → part s w (put a w ys t) ≡ part s w t
unfolding part
part-after s w a ys t h g e =
    let k : s ≡ a + w + (s - (a + w)) = omega arith in
    ap (take w)
    (ap (λ (x : ℕ). drop x (put a w ys t)) k
    ∙ sym (drop-drop (s - (a + w)) (a + w) (put a w ys t))
    ∙ ap (drop (s - (a + w))) (drop-put a w ys t g e)
    ∙ drop-drop (s - (a + w)) (a + w) t
    ∙ ap (λ (x : ℕ). drop x t) (sym k))

-- the bytes of a list with ys put into it
module _ (s w : ℕ) (ys t : List ℕ) (room : s + w ≤ length t) (e : length ys ≡ w) where
  head-length : length (take s t) ≡ s
  head-length = length-take-le s t (omega arith)

  pub put-left : (b : ℕ) → b < s → get_or (put s w ys t) b 0 ≡ get_or t b 0
  unfolding put
  put-left b l = get_or-append (take s t) (ys ++ drop w (drop s t)) 0 b (omega (arith, head-length)) ∙ get_or-take s t b 0 l

  behind : (b : ℕ) → get_or (put s w ys t) (s + b) 0 ≡ get_or (ys ++ drop w (drop s t)) b 0
  unfolding put
  behind b =
      let q : s + b ≡ length (take s t) + b = omega (arith, head-length) in
      ap (λ (x : ℕ). get_or (take s t ++ (ys ++ drop w (drop s t))) x 0) q ∙ get_or-append-add (take s t) (ys ++ drop w (drop s t)) b 0

  pub put_in : (b : ℕ) → b < w → get_or (put s w ys t) (s + b) 0 ≡ get_or ys b 0
  put_in b l = behind b ∙ get_or-append ys (drop w (drop s t)) 0 b (omega (arith, e))

  pub put_right : (b : ℕ) → s + w ≤ b → get_or (put s w ys t) b 0 ≡ get_or t b 0
  put_right b l =
      let q : b ≡ s + (w + (b - (s + w))) = omega arith in
      let p : w + (b - (s + w)) ≡ length ys + (b - (s + w)) = omega (arith, e) in
      ap (λ (x : ℕ). get_or (put s w ys t) x 0) q
      ∙ behind (w + (b - (s + w)))
      ∙ ap (λ (x : ℕ). get_or (ys ++ drop w (drop s t)) x 0) p
      ∙ get_or-append-add ys (drop w (drop s t)) (b - (s + w)) 0
      ∙ get_or-drop w (drop s t) (b - (s + w)) 0
      ∙ get_or-drop s t (w + (b - (s + w))) 0
      ∙ ap (λ (x : ℕ). get_or t x 0) (sym q)

-- f i of a row is as long as the row
pub record Keeps (w : ℕ) (f : ℕ → List ℕ → List ℕ) : Type 0 where
  pub keeps : (i : ℕ) (v : List ℕ) → length v ≡ w → length (f i v) ≡ w

module _ (f : ℕ → List ℕ → List ℕ) (w : ℕ) (t : List ℕ) (k : Keeps w f) where
  pub each-length : (m : ℕ) → m * w ≤ length t → length (each_row f w t m) ≡ length t
  unfolding each_row
  each-length zero h = refl
  each-length (suc m) h =
      let l : length (each_row f w t m) ≡ length t = each-length m (omega (arith, suc-mul m w)) in
      let r : m * w + w ≤ length (each_row f w t m) = omega (arith, suc-mul m w) in
      put-length (m * w) w _ (each_row f w t m) r (k.keeps m _ (part_length (m * w) w (each_row f w t m) r)) ∙ l

  -- rows from m on are as they were
  pub each_later : (m j : ℕ) → m ≤ j → m * w ≤ length t → part (j * w) w (each_row f w t m) ≡ part (j * w) w t
  unfolding each_row
  each_later zero j h g = refl
  each_later (suc m) j h g =
      let l : length (each_row f w t m) ≡ length t = each-length m (omega (arith, suc-mul m w)) in
      let r : m * w + w ≤ length (each_row f w t m) = omega (arith, suc-mul m w) in
      part-after (j * w) w (m * w) _ (each_row f w t m) (row_in m j w h) r
      (k.keeps m _ (part_length (m * w) w (each_row f w t m) r))
      ∙ each_later m j (le_of_lt h) (omega (arith, suc-mul m w))

  -- and so are the bytes past them
  pub each-rest : (m : ℕ) → m * w ≤ length t → drop (m * w) (each_row f w t m) ≡ drop (m * w) t
  unfolding each_row
  each-rest zero h = refl
  each-rest (suc m) h =
      let l : length (each_row f w t m) ≡ length t = each-length m (omega (arith, suc-mul m w)) in
      let r : m * w + w ≤ length (each_row f w t m) = omega (arith, suc-mul m w) in
      let q : suc m * w ≡ m * w + w = suc-mul m w in
      ap (λ (x : ℕ). drop x (each_row f w t (suc m))) q
      ∙ drop-put (m * w) w _ (each_row f w t m) r (k.keeps m _ (part_length (m * w) w (each_row f w t m) r))
      ∙ sym (drop-drop w (m * w) (each_row f w t m))
      ∙ ap (drop w) (each-rest m (omega (arith, suc-mul m w)))
      ∙ drop-drop w (m * w) t
      ∙ ap (λ (x : ℕ). drop x t) (sym q)

  -- row i is f i of what it was
  pub each_at : (m i : ℕ) → i < m → m * w ≤ length t → part (i * w) w (each_row f w t m) ≡ f i (part (i * w) w t)
  unfolding each_row
  each_at zero i h g = absurd (not-suc-le-zero h)
  each_at (suc m) i h g =
      let l : length (each_row f w t m) ≡ length t = each-length m (omega (arith, suc-mul m w)) in
      let r : m * w + w ≤ length (each_row f w t m) = omega (arith, suc-mul m w) in
      ⊎_elim
      (λ e.
      rw e
      (part-put (m * w) w _ (each_row f w t m) (omega arith) (k.keeps m _ (part_length (m * w) w (each_row f w t m) r))
      ∙ ap (f m) (each_later m m (le_refl m) (omega (arith, suc-mul m w)))))
      (λ j.
      part-before (i * w) w (m * w) _ (each_row f w t m) (row_in i m w j) (omega arith)
      ∙ each_at m i j (omega (arith, suc-mul m w)))
      (eq-or-lt_of_le (le_of_suc-le-suc h))

-- a loop over the rows: one turn, and the end
pub each_more :
    (f : ℕ → List ℕ → List ℕ) (w : ℕ) (t₀ : List ℕ) (i : ℕ) (t u : List ℕ) →
    t ≡ each_row f w t₀ i →
    u ≡ put (i * w) w (f i (part (i * w) w t)) t →
    u ≡ each_row f w t₀ (i + 1)
unfolding each_row
each_more f w t₀ i t u e k = k ∙ rw (add-one i) (ap (λ (x : List ℕ). put (i * w) w (f i (part (i * w) w x)) x) e)

pub each_all :
    (f : ℕ → List ℕ → List ℕ) (w : ℕ) (t₀ : List ℕ) (i m : ℕ) (t : List ℕ) →
    t ≡ each_row f w t₀ i →
    i ≤ m →
    m ≤ i →
    t ≡ each_row f w t₀ m
each_all f w t₀ i m t e h k = e ∙ ap (each_row f w t₀) (le_antisymm h k)

-- equal rows and equal rests
pub same :
    (w : ℕ) (a b : List ℕ) (m : ℕ) →
    ((i : ℕ) → i < m → part (i * w) w a ≡ part (i * w) w b) →
    drop (m * w) a ≡ drop (m * w) b →
    a ≡ b
unfolding part
same w a b zero h e =
    let q : 0 ≡ 0 * w = omega arith in
    ap (λ (x : ℕ). drop x a) q ∙ e ∙ ap (λ (x : ℕ). drop x b) (sym q)
same w a b (suc m) h e =
    let q : m * w + w ≡ suc m * w = sym (suc-mul m w) in
    let d : drop w (drop (m * w) a) ≡ drop w (drop (m * w) b) =
    drop-drop w (m * w) a
    ∙ ap (λ (x : ℕ). drop x a) q
    ∙ e
    ∙ ap (λ (x : ℕ). drop x b) (sym q)
    ∙ sym (drop-drop w (m * w) b) in
    same w a b m (λ i l. h i (omega arith))
    (sym (take-append-drop w (drop (m * w) a)) ∙ ap₂ ◌++◌ (h m (omega arith)) d ∙ take-append-drop w (drop (m * w) b))

-- the rows of n qudits
module _ (n : ℕ) (f : ℕ → List ℕ → List ℕ) (k : Keeps (2 * n + 1) f) (t : List ℕ) (room : 2 * n * (2 * n + 1) ≤ length t) where
  pub on-length : length (on_rows n f t) ≡ length t
  on-length = each-length f (2 * n + 1) t k (2 * n) room

  pub on-at : (i : ℕ) → i < 2 * n → row n (on_rows n f t) i ≡ f i (row n t i)
  on-at i l = each_at f (2 * n + 1) t k (2 * n) i l room

  pub on-rest : drop (2 * n * (2 * n + 1)) (on_rows n f t) ≡ drop (2 * n * (2 * n + 1)) t
  on-rest = each-rest f (2 * n + 1) t k (2 * n) room

-- two ways over the rows that agree at each row
pub on-on :
    (n : ℕ) (f g f' g' : ℕ → List ℕ → List ℕ) →
    Keeps (2 * n + 1) f →
    Keeps (2 * n + 1) g →
    Keeps (2 * n + 1) f' →
    Keeps (2 * n + 1) g' →
    (t : List ℕ) →
    2 * n * (2 * n + 1) ≤ length t →
    ((i : ℕ) → i < 2 * n → f i (g i (row n t i)) ≡ f' i (g' i (row n t i))) →
    on_rows n f (on_rows n g t) ≡ on_rows n f' (on_rows n g' t)
on-on n f g f' g' kf kg kf' kg' t room h =
    let l : length (on_rows n g t) ≡ length t = on-length n g kg t room in
    let l' : length (on_rows n g' t) ≡ length t = on-length n g' kg' t room in
    let r : 2 * n * (2 * n + 1) ≤ length (on_rows n g t) = omega arith in
    let r' : 2 * n * (2 * n + 1) ≤ length (on_rows n g' t) = omega arith in
    same (2 * n + 1) (on_rows n f (on_rows n g t)) (on_rows n f' (on_rows n g' t)) (2 * n)
    (λ i li.
    on-at n f kf (on_rows n g t) r i li
    ∙ ap (f i) (on-at n g kg t room i li)
    ∙ h i li
    ∙ sym (ap (f' i) (on-at n g' kg' t room i li))
    ∙ sym (on-at n f' kf' (on_rows n g' t) r' i li))
    (on-rest n f kf (on_rows n g t) r
    ∙ on-rest n g kg t room
    ∙ sym (on-rest n g' kg' t room)
    ∙ sym (on-rest n f' kf' (on_rows n g' t) r'))

-- a way that changes no row
pub on_none :
    (n : ℕ) (f : ℕ → List ℕ → List ℕ) →
    Keeps (2 * n + 1) f →
    (t : List ℕ) →
    2 * n * (2 * n + 1) ≤ length t →
    ((i : ℕ) → i < 2 * n → f i (row n t i) ≡ row n t i) →
    on_rows n f t ≡ t
on_none n f k t room h =
    same (2 * n + 1) (on_rows n f t) t (2 * n) (λ i li. on-at n f k t room i li ∙ h i li) (on-rest n f k t room)

-- two ways that are one
pub on_one :
    (n : ℕ) (f g h : ℕ → List ℕ → List ℕ) →
    Keeps (2 * n + 1) f →
    Keeps (2 * n + 1) g →
    Keeps (2 * n + 1) h →
    (t : List ℕ) →
    2 * n * (2 * n + 1) ≤ length t →
    ((i : ℕ) → i < 2 * n → f i (g i (row n t i)) ≡ h i (row n t i)) →
    on_rows n f (on_rows n g t) ≡ on_rows n h t
on_one n f g h kf kg kh t room e =
    on-on n f g h none kf kg kh kept t room e ∙ ap (on_rows n h) (on_none n none kept t room (λ i l. refl))
  where
    none : ℕ → List ℕ → List ℕ
    none i v = v

    kept : Keeps (2 * n + 1) none
    kept = record { keeps = λ i v l. l }

-- one row of n qudits
module _ (n : ℕ) (t : List ℕ) (room : 2 * n * (2 * n + 1) ≤ length t) (i : ℕ) (l : i < 2 * n) where
  pub row_room : i * (2 * n + 1) + (2 * n + 1) ≤ length t
  row_room = omega (arith, row_in i (2 * n) (2 * n + 1) l)

  pub row-length : length (row n t i) ≡ 2 * n + 1
  row-length = part_length (i * (2 * n + 1)) (2 * n + 1) t row_room

  -- what was put for it is there, and the other rows are as they were
  module _ (ys : List ℕ) (e : length ys ≡ 2 * n + 1) where
    pub row_put_lem : row n (put (i * (2 * n + 1)) (2 * n + 1) ys t) i ≡ ys
    row_put_lem = part-put (i * (2 * n + 1)) (2 * n + 1) ys t (omega (arith, row_room)) e

    pub row_other : (j : ℕ) → j ≢ i → row n (put (i * (2 * n + 1)) (2 * n + 1) ys t) j ≡ row n t j
    row_other j h = by (dec_lt j i)
      where
        by : Dec (j < i) → row n (put (i * (2 * n + 1)) (2 * n + 1) ys t) j ≡ row n t j
        by (yes k) =
            part-before (j * (2 * n + 1)) (2 * n + 1) (i * (2 * n + 1)) ys t (row_in j i (2 * n + 1) k)
            (omega (arith, row_room))
        by (no k) =
            part-after (j * (2 * n + 1)) (2 * n + 1) (i * (2 * n + 1)) ys t (row_in i j (2 * n + 1) (omega arith)) row_room
            e

pub row_at : (n : ℕ) (t : List ℕ) (i s : ℕ) → s < 2 * n + 1 → get_or (row n t i) s 0 ≡ get_or t (i * (2 * n + 1) + s) 0
row_at n t i s l = part_at (i * (2 * n + 1)) (2 * n + 1) t s l

-- a tableau's rows are rows, and 2n rows are a tableau
pub tableau-row : (d n : ℕ) (t : List ℕ) → Tableau d n t → (i : ℕ) → i < 2 * n → Row d n (row n t i)
tableau-row d n t h i l =
    record {
      len = row-length n t h.room i l;
      below =
          λ s k. rw (row_at n t i s k) (h.below (i * (2 * n + 1) + s) (omega (arith, row_in i (2 * n) (2 * n + 1) l)));
    }

pub rows-tableau :
    (d n : ℕ) (t : List ℕ) →
    2 * n * (2 * n + 1) ≤ length t →
    ((i : ℕ) → i < 2 * n → Row d n (row n t i)) →
    Tableau d n t
rows-tableau d n t room h =
    record {
      room = room;
      below = λ s l. rw (spot s) ((h (s / (2 * n + 1)) ((div-lt_iff_lt-mul (omega arith)).1 l)).below (s % (2 * n + 1)) (mod-lt s (omega arith)));
    }
  where
    spot : (s : ℕ) → get_or t s 0 ≡ get_or (row n t (s / (2 * n + 1))) (s % (2 * n + 1)) 0
    spot s =
        sym
        (row_at n t (s / (2 * n + 1)) (s % (2 * n + 1)) (mod-lt s (omega arith))
        ∙ ap (λ (x : ℕ). get_or t x 0) (div-add-mod' s (2 * n + 1)))

-- a row put for a row leaves a tableau
pub tableau-put :
    (d n : ℕ) (t : List ℕ) →
    Tableau d n t →
    (i : ℕ) →
    i < 2 * n →
    (ys : List ℕ) →
    Row d n ys →
    Tableau d n (put (i * (2 * n + 1)) (2 * n + 1) ys t)
tableau-put d n t h i l ys r =
    rows-tableau d n (put (i * (2 * n + 1)) (2 * n + 1) ys t)
    (omega (arith, h.room, put-length (i * (2 * n + 1)) (2 * n + 1) ys t (row_room n t h.room i l) r.len))
    (λ j k. by j k (ℕ_discrete j i))
  where
    by : (j : ℕ) → j < 2 * n → Dec (j ≡ i) → Row d n (row n (put (i * (2 * n + 1)) (2 * n + 1) ys t) j)
    by j k (yes e) = rw (e, row_put_lem n t h.room i l ys r.len) r
    by j k (no e) = rw (row_other n t h.room i l ys r.len j e) (tableau-row d n t h j k)

-- a turn of a loop over the rows of a tableau: row i is there, and is a row
module _
    (d n : ℕ) (f : ℕ → List ℕ → List ℕ) (k : Keeps (2 * n + 1) f) (t₀ : List ℕ) (h : Tableau d n t₀)
    (i : ℕ) (l : i < 2 * n) (t : List ℕ) (e : t ≡ each_row f (2 * n + 1) t₀ i) where
  before : i * (2 * n + 1) ≤ length t₀
  before = omega (arith, row_room n t₀ h.room i l)

  pub turn-room : i * (2 * n + 1) + (2 * n + 1) ≤ length t
  turn-room = rw (e, each-length f (2 * n + 1) t₀ k i before) (row_room n t₀ h.room i l)

  pub turn-row : Row d n (row n t i)
  turn-row = rw (e, each_later f (2 * n + 1) t₀ k i i (le_refl i) before) (tableau-row d n t₀ h i l)
