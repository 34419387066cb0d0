-- Results with their shifts, byte by byte and measurement by measurement.
-- Assumes nothing.
use mathlib.Core.Path.{◌≡◌, refl, sym, ap, ◌∙◌}
use mathlib.Core.Bool.{Bool, true, false}
use mathlib.Core.List.{List, ◌++◌}
use Prim.Native.Nat.{ℕ, ◌+◌, ◌-◌, ◌*◌, ◌/◌, ◌%◌, ◌<◌, ◌≤◌}
use native.Mathlib.Nat.{div-add-mod, mod-lt}
use native.Mathlib.Decide.{ℕ_discrete}
use native.Mathlib.Omega.{arith}
use lib.Dec.{ltb}
use lib.ListN.{length, get_or, take, drop, set, length-append, length-drop}
use lib.Seq.{get_or-append-add, get_or-drop, set-get_or, ext_get_or, take_at}
use borrow.Author.Tests.{eq-eqb, ne_eqb, ltb-true, ltb-false}
use Rattle.row.specs.Row.{tab}
use Rattle.row.specs.Fill.{filled}
use Rattle.row.proofs.Fill.{tab-length, Filled, filled_more, filled_next, filled-get}
use Rattle.runs.specs.Run.{with_result}
use Rattle.runs.specs.Carry.{shifted_byte_at, with_shifts}
use Rattle.runs.proofs.Results.{result_length, result_outcome, result_mark, result_other}

module _ (d : ℕ) (shifts : List ℕ) where
  -- an outcome and a mark
  half : (j : ℕ) → ((2 * j) / 2 ≡ j) × ((2 * j) % 2 ≡ 0)
  half j =
      let two : 0 < 2 = omega arith in
      let e = div-add-mod (2 * j) 2 in
      let l = mod-lt (2 * j) two in
      (omega (arith, e, l), omega (arith, e, l))

  shifted-outcome : (v : List ℕ) (j : ℕ) → shifted_byte_at d v shifts (2 * j) ≡ (get_or v (2 * j) 0 + get_or shifts j 0) % d
  shifted-outcome v j = rw (eq-eqb ((2 * j) % 2) 0 (half j).1, (half j).0)

  shifted-mark : (v : List ℕ) (j : ℕ) → shifted_byte_at d v shifts (2 * j + 1) ≡ get_or v (2 * j + 1) 0
  shifted-mark v j = rw (ne_eqb ((2 * j + 1) % 2) 0 (λ z. omega (arith, div-add-mod (2 * j + 1) 2)))

  -- so a list of such outcomes and marks is known at each byte
  pub shifted-byte : (v : List ℕ) (count : ℕ) (g : ℕ → ℕ)
      → ((j : ℕ) → j < count → g (2 * j) ≡ (get_or v (2 * j) 0 + get_or shifts j 0) % d)
      → ((j : ℕ) → j < count → g (2 * j + 1) ≡ get_or v (2 * j + 1) 0)
      → (b : ℕ) → b < 2 * count → g b ≡ shifted_byte_at d v shifts b
  shifted-byte v count g outcome mark b l = by (b / 2) (ℕ_discrete b (2 * (b / 2))) (div-add-mod b 2) (mod-lt b (omega arith))
    where
      by : (j : ℕ) → Dec (b ≡ 2 * j) → 2 * j + b % 2 ≡ b → b % 2 < 2 → g b ≡ shifted_byte_at d v shifts b
      by j (yes e) q r = rw e (outcome j (omega arith) ∙ sym (shifted-outcome v j))
      by j (no e) q r = let odd : b ≡ 2 * j + 1 = omega arith in rw odd (mark j (omega arith) ∙ sym (shifted-mark v j))

  pub with_none : (v : List ℕ) → with_shifts d shifts 0 v ≡ v
  unfolding with_shifts filled tab
  with_none v = refl

  pub with_first : (count : ℕ) (v : List ℕ) → take (2 * count) (with_shifts d shifts count v) ≡ tab (shifted_byte_at d v shifts) (2 * count)
  unfolding with_shifts filled
  with_first count v =
      take_at (tab (shifted_byte_at d v shifts) (2 * count)) (drop (2 * count) v) (2 * count) (tab-length (shifted_byte_at d v shifts) (2 * count))

  module _ (count : ℕ) (v : List ℕ) (room : 2 * count ≤ length v) where
    abbrev f : ℕ → ℕ
    f = shifted_byte_at d v shifts

    pub with_length : length (with_shifts d shifts count v) ≡ length v
    unfolding with_shifts filled
    with_length =
        omega (arith, length-append (tab f (2 * count)) (drop (2 * count) v), tab-length f (2 * count), length-drop (2 * count) v)

    with_in : (i : ℕ) → i < 2 * count → get_or (with_shifts d shifts count v) i 0 ≡ shifted_byte_at d v shifts i
    unfolding with_shifts
    with_in i l = filled-get f v (2 * count) i l

    with_past : (i : ℕ) → 2 * count ≤ i → get_or (with_shifts d shifts count v) i 0 ≡ get_or v i 0
    unfolding with_shifts filled
    with_past i l =
        let p : i ≡ length (tab f (2 * count)) + (i - 2 * count) = omega (arith, tab-length f (2 * count)) in
        let q : 2 * count + (i - 2 * count) ≡ i = omega arith in
        ap (λ (x : ℕ). get_or (tab f (2 * count) ++ drop (2 * count) v) x 0) p
        ∙ get_or-append-add (tab f (2 * count)) (drop (2 * count) v) (i - 2 * count) 0
        ∙ get_or-drop (2 * count) v (i - 2 * count) 0
        ∙ ap (λ (x : ℕ). get_or v x 0) q

    -- an outcome that has gained its shift, and one that has not
    pub with_outcome : (j : ℕ) → j < count → get_or (with_shifts d shifts count v) (2 * j) 0 ≡ (get_or v (2 * j) 0 + get_or shifts j 0) % d
    with_outcome j l = with_in (2 * j) (omega arith) ∙ shifted-outcome v j

    pub with_later : (j : ℕ) → count ≤ j → get_or (with_shifts d shifts count v) (2 * j) 0 ≡ get_or v (2 * j) 0
    with_later j l = with_past (2 * j) (omega arith)

  module _ (v : List ℕ) (j : ℕ) (room : 2 * j + 1 < length v) where
    abbrev w : List ℕ
    w = with_shifts d shifts j v

    abbrev w' : List ℕ
    w' = set w (2 * j) ((get_or w (2 * j) 0 + get_or shifts j 0) % d)

    -- one more measurement gets its shift: its outcome is written, and its mark is as it must be
    pub with_more : w' ≡ with_shifts d shifts (j + 1) v
    unfolding with_shifts
    with_more =
        let shifted = shifted_byte_at d v shifts in
        let start : Filled shifted v (2 * j) w = record { len = with_length j v (omega arith); is = refl } in
        let here : get_or w (2 * j) 0 ≡ get_or v (2 * j) 0 = filled_next shifted v w (2 * j) start (omega arith) in
        let outcome : Filled shifted v (2 * j + 1) w' =
        filled_more shifted v w (2 * j) start (omega arith) _ (ap (λ (x : ℕ). (x + get_or shifts j 0) % d) here ∙ sym (shifted-outcome v j)) in
        let mark = filled_more shifted v w' (2 * j + 1) outcome room _ (filled_next shifted v w' (2 * j + 1) outcome room ∙ sym (shifted-mark v j)) in
        let next : 2 * j + 1 + 1 ≡ 2 * (j + 1) = omega arith in
        sym (set-get_or w' (2 * j + 1) 0) ∙ mark.is ∙ ap (filled shifted v) next

    -- a result that is noted with its shift
    pub with_result_lem : (x mark : ℕ)
        → with_result (with_shifts d shifts j v) j ((x + get_or shifts j 0) % d) mark ≡ with_shifts d shifts (j + 1) (with_result v j x mark)
    with_result_lem x mark = ext_get_or 0 _ _ (left ∙ sym right) (λ i l. by i (ℕ_discrete i (2 * j)) (ℕ_discrete i (2 * j + 1)) (ltb i (2 * j)) refl)
      where
        y : ℕ
        y = (x + get_or shifts j 0) % d

        v' : List ℕ
        v' = with_result v j x mark

        long : length w ≡ length v
        long = with_length j v (omega arith)

        left : length (with_result w j y mark) ≡ length v
        left = result_length w j y mark ∙ long

        room' : 2 * (j + 1) ≤ length v'
        room' = omega (arith, result_length v j x mark)

        right : length (with_shifts d shifts (j + 1) v') ≡ length v
        right = with_length (j + 1) v' room' ∙ result_length v j x mark

        by : (i : ℕ) → Dec (i ≡ 2 * j) → Dec (i ≡ 2 * j + 1) → (b : Bool) → ltb i (2 * j) ≡ b
            → get_or (with_result w j y mark) i 0 ≡ get_or (with_shifts d shifts (j + 1) v') i 0
        by i (yes e) b c z =
            rw (e, result_outcome w j y mark (omega (arith, long)), with_in (j + 1) v' room' (2 * j) (omega arith), shifted-outcome v' j, result_outcome v j x mark room)
        by i (no a) (yes e) c z =
            rw (e, result_mark w j y mark (omega (arith, long)), with_in (j + 1) v' room' (2 * j + 1) (omega arith), shifted-mark v' j, result_mark v j x mark room)
        by i (no a) (no b) true z =
            let l : i < 2 * j = ltb-true _ _ z in
            rw (result_other w j y mark i a b, with_in j v (omega arith) i l, with_in (j + 1) v' room' i (omega arith), result_other v j x mark i a b)
        by i (no a) (no b) false z =
            let l : 2 * j ≤ i = ltb-false _ _ z in
            rw (result_other w j y mark i a b, with_past j v (omega arith) i l, with_past (j + 1) v' room' i (omega arith), result_other v j x mark i a b)
