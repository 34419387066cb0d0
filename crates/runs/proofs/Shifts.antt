-- Each measurement has its shift, which later operations leave; and the raised choice is the choice plus what raises it.
-- Assumes nothing.
use mathlib.Core.Path.{◌≡◌, refl, sym, ap, ◌∙◌}
use mathlib.Core.List.{List, [], ◌∷◌}
use Prim.Native.Nat.{ℕ, zero, suc, ◌+◌, ◌-◌, ◌%◌, ◌<◌, ◌≤◌}
use native.Mathlib.Decide.{ℕ_discrete}
use native.Mathlib.Omega.{arith}
use lib.ListN.{length, get_or, length-append, get_or-append}
use lib.Seq.{get_or_at}
use Rattle.row.specs.Row.{x_of, sum_at}
use Rattle.row.proofs.Fill.{tab-length, tab-get}
use Rattle.operation.specs.declared.Operation.{Operation}
use Rattle.operation.specs.declared.WeylError.{WeylError}
use Rattle.circuit.specs.Circuit.{op_at, Kind, gate, measures, resets, corrects, kind, tally_kind, measured, choice_kind, chosen}
use Rattle.runs.specs.Raised.{Carry, carrying, carry_by, frame_before, carry_before, carried, carried_frame, result_shifts, raise_by, choice_raises, raised}
use Rattle.runs.proofs.Results.{chosen-before}

-- bytes past a list's end count as 0
pub past_end : (v : List ℕ) (j : ℕ) → length v ≤ j → get_or v j 0 ≡ 0
past_end [] j l = refl
past_end (x ∷ v) zero l = absurd (omega arith)
past_end (x ∷ v) (suc j) l = past_end v j (omega arith)

-- the frame's X power on the qudit that is measured or reset
abbrev pub power_taken : Kind → List ℕ → ℕ
power_taken gate F = 0
power_taken (measures q) F = x_of F q
power_taken (resets q) F = x_of F q
power_taken (corrects t m) F = 0

module _ (d n : ℕ) (ops : List Operation) (errors : List WeylError) (from : ℕ) (C : Carry) where
  abbrev so_far : ℕ → Carry
  so_far i = carried d n ops errors from C i

  -- the frame just before operation from + i
  abbrev pub before : ℕ → List ℕ
  before i = frame_before d n ops errors (from + i) (so_far i).frame

  -- one shift for each measurement
  pub shifts-length : length C.shifts ≡ measured ops from → (count : ℕ) → length (so_far count).shifts ≡ measured ops (from + count)
  unfolding carried carry_by measured
  shifts-length start zero = let q : from + 0 ≡ from = omega arith in rw q start
  shifts-length start (suc m) =
      let q : from + suc m ≡ suc (from + m) = omega arith in
      rw q (by (kind (op_at ops (from + m))) (shifts-length start m))
    where
      by : (x : Kind) → length (so_far m).shifts ≡ measured ops (from + m)
          → length (carry_by d n ops errors (from + m) x (carry_before d n ops errors (from + m) (so_far m))).shifts ≡ measured ops (from + m) + tally_kind x
      by gate ih = omega (arith, ih)
      by (measures q) ih = rw length-append (omega (arith, ih))
      by (resets q) ih = omega (arith, ih)
      by (corrects t m) ih = omega (arith, ih)

  -- and a shift stays
  pub shifts-kept : (k j : ℕ) → j < length (so_far k).shifts → (i : ℕ)
      → (j < length (so_far (k + i)).shifts) × (get_or (so_far (k + i)).shifts j 0 ≡ get_or (so_far k).shifts j 0)
  unfolding carried carry_by
  shifts-kept k j l zero = let q : k + 0 ≡ k = omega arith in rw q (l, refl)
  shifts-kept k j l (suc i) =
      let q : k + suc i ≡ suc (k + i) = omega arith in
      let (long, same) = shifts-kept k j l i in
      rw q (by (kind (op_at ops (from + (k + i)))) long same)
    where
      S : Carry
      S = carry_before d n ops errors (from + (k + i)) (so_far (k + i))

      by : (x : Kind) → j < length S.shifts → get_or S.shifts j 0 ≡ get_or (so_far k).shifts j 0
          → (j < length (carry_by d n ops errors (from + (k + i)) x S).shifts)
          × (get_or (carry_by d n ops errors (from + (k + i)) x S).shifts j 0 ≡ get_or (so_far k).shifts j 0)
      by gate long same = (long, same)
      by (measures q) long same =
          (rw length-append (omega (arith, long)), get_or-append S.shifts (x_of S.frame q ∷ []) 0 j long ∙ same)
      by (resets q) long same = (long, same)
      by (corrects t m) long same = (long, same)

  abbrev raises : ℕ → List ℕ
  raises count = choice_raises d n ops errors from C count

  raises-length : (count : ℕ) → chosen ops from + length (raises count) ≡ chosen ops (from + count)
  unfolding choice_raises raise_by chosen
  raises-length zero = let q : from ≡ from + 0 = omega arith in omega (arith, ap (chosen ops) q)
  raises-length (suc m) =
      let q : from + suc m ≡ suc (from + m) = omega arith in
      rw q (by (kind (op_at ops (from + m))) (raises-length m))
    where
      by : (x : Kind) → chosen ops from + length (raises m) ≡ chosen ops (from + m)
          → chosen ops from + length (raise_by d n ops errors (from + m) x (so_far m).frame (raises m)) ≡ chosen ops (from + m) + choice_kind x
      by gate ih = omega (arith, ih)
      by (measures q) ih = rw length-append (omega (arith, ih))
      by (resets q) ih = rw length-append (omega (arith, ih))
      by (corrects t m) ih = omega (arith, ih)

  -- choice j of these is that of operation from + i
  pub raises-at : (count i j : ℕ) → i < count → choice_kind (kind (op_at ops (from + i))) ≡ 1 → chosen ops from + j ≡ chosen ops (from + i)
      → get_or (raises count) j 0 ≡ power_taken (kind (op_at ops (from + i))) (before i)
  unfolding choice_raises raise_by
  raises-at zero i j l e c = absurd (omega arith)
  raises-at (suc m) i j l e c = by (ℕ_discrete i m) (λ k. raises-at m i j k e c)
    where
      here : (x : Kind) → choice_kind x ≡ 1 → chosen ops from + j ≡ chosen ops (from + m)
          → get_or (raise_by d n ops errors (from + m) x (so_far m).frame (raises m)) j 0 ≡ power_taken x (before m)
      here gate h z = absurd (omega arith)
      here (measures q) h z = get_or_at (raises m) (x_of (before m) q) [] 0 j (omega (arith, raises-length m))
      here (resets q) h z = get_or_at (raises m) (x_of (before m) q) [] 0 j (omega (arith, raises-length m))
      here (corrects t m) h z = absurd (omega arith)

      earlier : (x : Kind) → j < length (raises m)
          → get_or (raise_by d n ops errors (from + m) x (so_far m).frame (raises m)) j 0 ≡ get_or (raises m) j 0
      earlier gate h = refl
      earlier (measures q) h = get_or-append (raises m) (x_of (before m) q ∷ []) 0 j h
      earlier (resets q) h = get_or-append (raises m) (x_of (before m) q ∷ []) 0 j h
      earlier (corrects t m) h = refl

      by : Dec (i ≡ m) → (i < m → get_or (raises m) j 0 ≡ power_taken (kind (op_at ops (from + i))) (before i))
          → get_or (raises (suc m)) j 0 ≡ power_taken (kind (op_at ops (from + i))) (before i)
      by (yes z) ih = rw z (here (kind (op_at ops (from + m))) (rw z at e) (rw z at c))
      by (no z) ih =
          earlier (kind (op_at ops (from + m))) (omega (arith, raises-length m, chosen-before ops (from + i) (from + m) (omega arith) e)) ∙ ih (omega arith)

-- of a whole book
module _ (d n : ℕ) (ops : List Operation) (errors : List WeylError) (F choices : List ℕ) where
  pub raised-length : length (raised d n ops errors F choices) ≡ length choices
  unfolding raised
  raised-length = tab-length (sum_at d choices (choice_raises d n ops errors 0 (carrying F) (length ops))) (length choices)

  pub raised_at : (j : ℕ) → j < length choices
      → get_or (raised d n ops errors F choices) j 0 ≡ (get_or choices j 0 + get_or (choice_raises d n ops errors 0 (carrying F) (length ops)) j 0) % d
  unfolding raised
  raised_at j l = tab-get (sum_at d choices (choice_raises d n ops errors 0 (carrying F) (length ops))) (length choices) j 0 l

module _ (d n : ℕ) (ops : List Operation) (errors : List WeylError) (F : List ℕ) where
  -- what is carried over the first k operations
  abbrev after : ℕ → Carry
  after k = carried d n ops errors 0 (carrying F) k

  pub shifts-count : (k : ℕ) → length (after k).shifts ≡ measured ops k
  unfolding measured
  shifts-count k = let z : 0 + k ≡ k = omega arith in shifts-length d n ops errors 0 (carrying F) refl k ∙ ap (measured ops) z

  -- the shift of an earlier measurement
  pub shift_known : (k j : ℕ) → k ≤ length ops → j < measured ops k → get_or (after k).shifts j 0 ≡ get_or (result_shifts d n ops errors F) j 0
  shift_known k j l h =
      let q : k + (length ops - k) ≡ length ops = omega arith in
      sym (rw q at (shifts-kept d n ops errors 0 (carrying F) k j (omega (arith, shifts-count k)) (length ops - k)).1)

  -- the shift of the measurement that is operation k
  pub shift_of : (k q : ℕ) → k < length ops → kind (op_at ops k) ≡ measures q
      → get_or (result_shifts d n ops errors F) (measured ops k) 0 ≡ x_of (frame_before d n ops errors k (carried_frame d n ops errors F k)) q
  unfolding carried carry_by measured
  shift_of k q l e =
      let z : 0 + k ≡ k = omega arith in
      sym (shift_known (suc k) (measured ops k) l (rw e (omega arith)))
      ∙ rw (z, e) (get_or_at (after k).shifts (x_of (frame_before d n ops errors k (after k).frame) q) [] 0 (measured ops k) (shifts-count k))
