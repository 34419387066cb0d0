-- The results of two runs, related measurement by measurement.
-- Assumes nothing.
use mathlib.Core.Path.{◌≡◌}
use mathlib.Core.List.{List}
use Prim.Native.Nat.{ℕ, ◌+◌, ◌*◌, ◌/◌, ◌%◌, ◌≤◌, ◌<◌}
use native.Mathlib.Nat.{div-add-mod, mod-lt}
use native.Mathlib.Decide.{ℕ_discrete}
use native.Mathlib.Omega.{arith}
use lib.ListN.{length, get_or}
use Rattle.runs.specs.Run.{with_result}
use Rattle.runs.proofs.Results.{result_length, result_outcome, result_mark, result_other}

-- Of the first m measurements, the outcomes of measurement j are related by R j and the marks are equal; there is room for `total`.
pub record ResultsRelated (R : ℕ → ℕ → ℕ → Type 0) (total m : ℕ) (out out' : List ℕ) : Type 0 where
  pub room : 2 * total ≤ length out
  pub room' : 2 * total ≤ length out'
  pub outcome : (j : ℕ) → j < m → R j (get_or out (2 * j) 0) (get_or out' (2 * j) 0)
  pub mark : (j : ℕ) → j < m → get_or out' (2 * j + 1) 0 ≡ get_or out (2 * j + 1) 0

module _ (R : ℕ → ℕ → ℕ → Type 0) (total : ℕ) {out out' : List ℕ} where
  pub related_none : 2 * total ≤ length out → 2 * total ≤ length out' → ResultsRelated R total 0 out out'
  related_none h h' = record { room = h; room' = h'; outcome = λ j l. absurd (omega arith); mark = λ j l. absurd (omega arith) }

  -- one more measurement
  pub related_more : (m r r' mark : ℕ) → m < total → R m r r' → ResultsRelated R total m out out'
      → ResultsRelated R total (m + 1) (with_result out m r mark) (with_result out' m r' mark)
  related_more m r r' x l rel a =
      record {
        room = omega (arith, a.room, result_length out m r x);
        room' = omega (arith, a.room', result_length out' m r' x);
        outcome = λ j k. outcome j k (ℕ_discrete j m);
        mark = λ j k. mark j k (ℕ_discrete j m);
      }
    where
      outcome : (j : ℕ) → j < m + 1 → Dec (j ≡ m) → R j (get_or (with_result out m r x) (2 * j) 0) (get_or (with_result out' m r' x) (2 * j) 0)
      outcome j k (yes e) =
          rw (e, result_outcome out m r x (omega (arith, a.room)), result_outcome out' m r' x (omega (arith, a.room'))) rel
      outcome j k (no e) =
          rw (result_other out m r x (2 * j) (λ z. omega arith) (λ z. omega arith), result_other out' m r' x (2 * j) (λ z. omega arith) (λ z. omega arith))
          (a.outcome j (omega arith))

      mark : (j : ℕ) → j < m + 1 → Dec (j ≡ m) → get_or (with_result out' m r' x) (2 * j + 1) 0 ≡ get_or (with_result out m r x) (2 * j + 1) 0
      mark j k (yes e) = rw (e, result_mark out m r x (omega (arith, a.room)), result_mark out' m r' x (omega (arith, a.room')))
      mark j k (no e) =
          rw (result_other out m r x (2 * j + 1) (λ z. omega arith) (λ z. omega arith), result_other out' m r' x (2 * j + 1) (λ z. omega arith) (λ z. omega arith))
          (a.mark j (omega arith))

-- Equal outcomes make equal bytes.
abbrev pub Equal : ℕ → ℕ → ℕ → Type 0
Equal j x y = y ≡ x

pub shifted-bytes : {total m : ℕ} {out out' : List ℕ} → ResultsRelated Equal total m out out' → (i : ℕ) → i < 2 * m → get_or out' i 0 ≡ get_or out i 0
shifted-bytes {out = out} {out' = out'} a i l = by (i / 2) (ℕ_discrete i (2 * (i / 2))) (div-add-mod i 2) (mod-lt i (omega arith))
  where
    by : (j : ℕ) → Dec (i ≡ 2 * j) → 2 * j + i % 2 ≡ i → i % 2 < 2 → get_or out' i 0 ≡ get_or out i 0
    by j (yes e) q b = rw e (a.outcome j (omega arith))
    by j (no e) q b = let odd : i ≡ 2 * j + 1 = omega arith in rw odd (a.mark j (omega arith))
