-- An accepted book's numbers are those of its lists of operations, errors and choices, and the lists are what 2, 3 and 5 to 7
-- let through. Assumes nothing.
use mathlib.Core.Path.{◌≡◌, refl, sym, ap, subst, ◌∙◌}
use mathlib.Core.Bool.{cond, true, ◌||◌, false≢true}
use mathlib.Core.List.{List, [], ◌∷◌}
use Prim.Native.Nat.{ℕ, zero, suc, ◌+◌, ◌*◌, ◌/◌, ◌<◌, ◌≤◌}
use native.Mathlib.Nat.{le_refl}
use native.Mathlib.Omega.{arith}
use lib.Dec.{eqb}
use lib.ListN.{length, get_or}
use borrow.Author.Tests.{ltb-true}
use Rattle.operation.specs.declared.Operation.{Operation}
use Rattle.operation.specs.declared.Operation.TheVariants.{Fourier, PhaseGate, Sum, Cz, Swap, Multiplier, Measure, Reset, Correct}
use Rattle.operation.specs.Operation.{allowed, named}
use Rattle.circuit.specs.Circuit.{tally, measured, choice_tally, chosen, Accepted}
use Rattle.std.proofs.Common.{Option, Some, None}
use Rattle.book_entries.specs.Entry.{bytes_of, operation_at}
use Rattle.book_body.specs.Body.{is_good, measurements, choice_takers, ReaderAnswer, refused, accepted}
use Rattle.book_body.proofs.Sound.{no_refusal, Sound, all_sound, each_operation, one_each, each_choice}
use Rattle.book_entries.proofs.Decoding.{decoded-exactly}
use Rattle.book.specs.Book.{dimension_of, qudits_of, operations_entry, errors_entry, choices_entry, part_of, body_of}
use Rattle.book.specs.Decoded.{operation_in, operation_of, operations_of, errors_of, Means, AcceptedMeans}
use Rattle.book.proofs.Contents.{all-passed, by_kind}
use Rattle.book.proofs.Lists.{op-count, op-at, error-count}
use Rattle.book.proofs.GoodErrors.{errors-in-order, places}

is_in : (earlier : ℕ) (x : Option Operation) → is_good earlier x ≡ true → (x ≡ Some (operation_in x)) × (named earlier (operation_in x) ≡ true)
is_in earlier (Some op) e = (refl, e)
is_in earlier None e = absurd (false≢true e)

-- 1 for the code 6, else 0
code-tally : (op : Operation) → tally op ≡ cond (eqb (get_or (bytes_of op) 0 0) 6) 1 0
unfolding bytes_of
code-tally (Fourier q k) = refl
code-tally (PhaseGate q k) = refl
code-tally (Sum c t k) = refl
code-tally (Cz c t k) = refl
code-tally (Swap c t) = refl
code-tally (Multiplier q u) = refl
code-tally (Measure q) = refl
code-tally (Reset q) = refl
code-tally (Correct t m) = refl

-- 1 for the codes 6 and 7, else 0
abbrev takes : ℕ → ℕ
takes code = cond (eqb code 6 || eqb code 7) 1 0

code-takes : (op : Operation) → choice_tally op ≡ takes (get_or (bytes_of op) 0 0)
unfolding bytes_of
code-takes (Fourier q k) = refl
code-takes (PhaseGate q k) = refl
code-takes (Sum c t k) = refl
code-takes (Cz c t k) = refl
code-takes (Swap c t) = refl
code-takes (Multiplier q u) = refl
code-takes (Measure q) = refl
code-takes (Reset q) = refl
code-takes (Correct t m) = refl

-- the four bytes of entry k
abbrev entry_of : List ℕ → ℕ → List ℕ
entry_of os k = get_or os (4 * k) 0 ∷ get_or os (4 * k + 1) 0 ∷ get_or os (4 * k + 2) 0 ∷ get_or os (4 * k + 3) 0 ∷ []

module _ {d n : ℕ} {os es cs : List ℕ} {t : ReaderAnswer} (sound : Sound d n os es cs t) where
  -- the operations
  -- entry k is allowed, and its bytes are its operation's
  entry : (k : ℕ) → k < length os / 4 → (allowed d n (operation_of d n os k) ≡ true) × (entry_of os k ≡ bytes_of (operation_of d n os k))
  entry k h = (decoded-exactly d n _ _ _ _ (operation_of d n os k)).0 (is_in (measurements os k) (operation_at d n os k) (each_operation sound k h)).0

  op-tally : (k : ℕ) → k < length os / 4 → tally (operation_of d n os k) ≡ cond (eqb (get_or os (4 * k) 0) 6) 1 0
  op-tally k h = code-tally (operation_of d n os k) ∙ ap (λ (bytes : List ℕ). cond (eqb (get_or bytes 0 0) 6) 1 0) (sym (entry k h).1)

  op-measured : (k : ℕ) → k ≤ length os / 4 → measured (operations_of d n os) k ≡ measurements os k
  unfolding measured measurements
  op-measured zero h = refl
  op-measured (suc k) h = rw (op-measured k (omega arith), op-at d n os k h, op-tally k h)

  op-chosen : (k : ℕ) → k ≤ length os / 4 → chosen (operations_of d n os) k ≡ choice_takers os k
  unfolding chosen choice_takers
  op-chosen zero h = refl
  op-chosen (suc k) h =
      rw (op-chosen k (omega arith), op-at d n os k h, code-takes (operation_of d n os k) ∙ ap (λ (bytes : List ℕ). takes (get_or bytes 0 0)) (sym (entry k h).1))

  -- and names an earlier measurement, if any
  op-names : (k : ℕ) → k < length os / 4 → named (measured (operations_of d n os) k) (operation_of d n os k) ≡ true
  op-names k h = rw (op-measured k (omega arith)) (is_in (measurements os k) (operation_at d n os k) (each_operation sound k h)).1

  lists : Accepted d n (operations_of d n os) (errors_of es) cs
  lists =
      record {
        operations = λ k h. let l : k < length os / 4 = rw op-count at h in rw (op-at d n os k l) (entry k l).0;
        names = λ k h. let l : k < length os / 4 = rw op-count at h in rw (op-at d n os k l) (op-names k l);
        errors-in-order = errors-in-order d n (length os / 4) es sound.errors;
        places = λ j h. rw op-count (places d n (length os / 4) es sound.errors j h);
        one_each = rw op-count (one_each sound ∙ sym (op-chosen _ (le_refl _)));
        below = λ j h. ltb-true _ _ (each_choice sound j h);
      }

-- where the answer has the numbers, they mean this
abbrev Meant : List ℕ → ReaderAnswer → Type 0
Meant s (refused number place) = Unit {0}
Meant s (accepted d n operations errors choices) = Means s d n operations errors choices

pub accepted-means : AcceptedMeans
accepted-means s d n operations errors choices e =
    let good = no_refusal d n operations errors choices in
    let p = all-passed s good e in
    let sound = all_sound (dimension_of s) (qudits_of s) (part_of s operations_entry) (part_of s errors_entry) (part_of s choices_entry) good p.bodies in
    let b1 : body_of s 1 ≡ part_of s operations_entry = by_kind s 1 e in
    let b2 : body_of s 2 ≡ part_of s errors_entry = by_kind s 2 e in
    let b3 : body_of s 3 ≡ part_of s choices_entry = by_kind s 3 e in
    subst (Meant s) sound.numbers
    (record {
      dimension = refl;
      dimension-listed = p.dimension;
      qudits = refl;
      qudits-sized = p.qudits;
      operation_count = rw b1 (op-count _ _ _);
      error-count = rw b2 (error-count _);
      choice-count = ap length b3;
      choices-taken = rw b1 (op-chosen sound _ (le_refl _) ∙ sym (one_each sound));
      taker_count = rw b1 (sym (one_each sound));
      measurement-count = rw b1 (op-measured sound _ (le_refl _));
      lists = rw (b1, b2, b3) (lists sound);
    })
