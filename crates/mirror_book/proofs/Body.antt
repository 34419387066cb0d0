-- The bytes of allowed operations, read again: the reader finds no bad one, and the same operations; among gates no code that takes a choice.
-- Assumes nothing.
use Rattle.std.proofs.Common.{None}
use mathlib.Core.Path.{◌≡◌, refl, sym, ap, ◌∙◌}
use mathlib.Core.Bool.{true, false, ◌||◌}
use mathlib.Core.List.{List, [], ◌∷◌, ◌++◌, append_assoc, append-nil}
use Prim.Native.Nat.{ℕ, zero, suc, ◌+◌, ◌*◌, ◌/◌, ◌<◌, ◌≤◌}
use native.Mathlib.Omega.{arith}
use lib.Dec.{eqb}
use lib.ListN.{length, get_or, length-append, get_or-append}
use lib.Seq.{get_or-append-add, ext_get_or}
use Rattle.search.proofs.Search.{none_fails}
use Rattle.operation.specs.declared.Operation.{Operation}
use Rattle.operation.specs.declared.Operation.TheVariants.{Fourier, PhaseGate, Sum, Cz, Swap, Multiplier, Measure, Reset, Correct}
use Rattle.operation.specs.Operation.{allowed, named}
use Rattle.circuit.specs.Circuit.{op_at, gate, kind}
use Rattle.std.proofs.Common.{Some}
use Rattle.book_entries.specs.Entry.{bytes_of, operation_at}
use Rattle.book_entries.proofs.Decoding.{decoded-exactly}
use Rattle.book_body.specs.Body.{is_good, good_operation, bad_operation, measurements, choice_takers}
use Rattle.book.specs.Decoded.{operation_in, operations_of}
use Rattle.book.proofs.Lists.{op-count, op-at}
use Rattle.mirror_book.specs.MirrorBook.{bytes_of_all}

pub four : (op : Operation) → length (bytes_of op) ≡ 4
unfolding bytes_of
four (Fourier q k) = refl
four (PhaseGate q k) = refl
four (Sum c t k) = refl
four (Cz c t k) = refl
four (Swap c t) = refl
four (Multiplier q u) = refl
four (Measure q) = refl
four (Reset q) = refl
four (Correct t m) = refl

listed-four : (xs : List ℕ) → length xs ≡ 4 → get_or xs 0 0 ∷ get_or xs 1 0 ∷ get_or xs 2 0 ∷ get_or xs 3 0 ∷ [] ≡ xs
listed-four [] e = absurd (omega arith)
listed-four (a ∷ []) e = absurd (omega arith)
listed-four (a ∷ b ∷ []) e = absurd (omega arith)
listed-four (a ∷ b ∷ c ∷ []) e = absurd (omega arith)
listed-four (a ∷ b ∷ c ∷ x ∷ []) e = refl
listed-four (a ∷ b ∷ c ∷ x ∷ y ∷ zs) e = absurd (omega arith)

pub body-length : (ops : List Operation) → length (bytes_of_all ops) ≡ 4 * length ops
unfolding bytes_of_all
body-length [] = refl
body-length (op ∷ ops) = length-append (bytes_of op) (bytes_of_all ops) ∙ omega (arith, four op, body-length ops)

-- one operation more
pub body_more : (ops : List Operation) (op : Operation) → bytes_of_all (ops ++ (op ∷ [])) ≡ bytes_of_all ops ++ bytes_of op
unfolding bytes_of_all
body_more [] op = append-nil (bytes_of op)
body_more (x ∷ ops) op = ap (λ (v : List ℕ). bytes_of x ++ v) (body_more ops op) ∙ sym (append_assoc (bytes_of x) (bytes_of_all ops) (bytes_of op))

pub byte_at : (ops : List Operation) (k j : ℕ) → k < length ops → j < 4 → get_or (bytes_of_all ops) (4 * k + j) 0 ≡ get_or (bytes_of (op_at ops k)) j 0
unfolding bytes_of_all
byte_at [] k j l h = absurd (omega arith)
byte_at (op ∷ ops) zero j l h =
    let q : 4 * 0 + j ≡ j = omega arith in
    rw q (get_or-append (bytes_of op) (bytes_of_all ops) 0 j (omega (arith, four op)))
byte_at (op ∷ ops) (suc k) j l h =
    let q : 4 * suc k + j ≡ length (bytes_of op) + (4 * k + j) = omega (arith, four op) in
    rw q (get_or-append-add (bytes_of op) (bytes_of_all ops) (4 * k + j) 0 ∙ byte_at ops k j (omega arith) h)

code_at : (ops : List Operation) (k : ℕ) → k < length ops → get_or (bytes_of_all ops) (4 * k) 0 ≡ get_or (bytes_of (op_at ops k)) 0 0
code_at ops k l =
    let q : 4 * k ≡ 4 * k + 0 = omega arith in
    ap (λ (i : ℕ). get_or (bytes_of_all ops) i 0) q ∙ byte_at ops k 0 l (omega arith)

pub entry-count : (ops : List Operation) → length (bytes_of_all ops) / 4 ≡ length ops
entry-count ops = omega (arith, body-length ops)

-- a gate names no measurement
pub gate-names : (earlier : ℕ) (op : Operation) → kind op ≡ gate → named earlier op ≡ true
gate-names earlier (Fourier q k) e = refl
gate-names earlier (PhaseGate q k) e = refl
gate-names earlier (Sum c t k) e = refl
gate-names earlier (Cz c t k) e = refl
gate-names earlier (Swap c t) e = refl
gate-names earlier (Multiplier q u) e = refl
gate-names earlier (Measure q) e = refl
gate-names earlier (Reset q) e = refl
gate-names earlier (Correct t m) e = cc

module _ (d n : ℕ) (ops : List Operation) (good : (k : ℕ) → k < length ops → allowed d n (op_at ops k) ≡ true) where
  entry_read : (k : ℕ) → k < length ops → operation_at d n (bytes_of_all ops) k ≡ Some (op_at ops k)
  entry_read k l =
      rw (code_at ops k l, byte_at ops k 1 l (omega arith), byte_at ops k 2 l (omega arith), byte_at ops k 3 l (omega arith))
      ((decoded-exactly d n _ _ _ _ (op_at ops k)).1 (good k l, listed-four (bytes_of (op_at ops k)) (four (op_at ops k))))

  pub read_again : operations_of d n (bytes_of_all ops) ≡ ops
  read_again =
      ext_get_or (Measure 0) _ _ (op-count d n (bytes_of_all ops) ∙ entry-count ops)
      (λ k l.
      let i : k < length ops = omega (arith, op-count d n (bytes_of_all ops), entry-count ops) in
      op-at d n (bytes_of_all ops) k (rw (entry-count ops) i) ∙ ap operation_in (entry_read k i))

  pub none-bad : ((k : ℕ) → k < length ops → kind (op_at ops k) ≡ gate) → bad_operation d n (bytes_of_all ops) ≡ None
  unfolding bad_operation
  none-bad gates =
      none_fails (good_operation d n (bytes_of_all ops)) (length (bytes_of_all ops) / 4)
      (λ k l.
      let i : k < length ops = rw (entry-count ops) at l in
      ap (is_good (measurements (bytes_of_all ops) k)) (entry_read k i) ∙ gate-names (measurements (bytes_of_all ops) k) (op_at ops k) (gates k i))

gate-code : (op : Operation) → kind op ≡ gate → eqb (get_or (bytes_of op) 0 0) 6 || eqb (get_or (bytes_of op) 0 0) 7 ≡ false
unfolding bytes_of
gate-code (Fourier q k) e = refl
gate-code (PhaseGate q k) e = refl
gate-code (Sum c t k) e = refl
gate-code (Cz c t k) e = refl
gate-code (Swap c t) e = refl
gate-code (Multiplier q u) e = refl
gate-code (Measure q) e = cc
gate-code (Reset q) e = cc
gate-code (Correct t m) e = cc

pub none-counted : (ops : List Operation) → ((k : ℕ) → k < length ops → kind (op_at ops k) ≡ gate) → (m : ℕ) → m ≤ length ops
    → choice_takers (bytes_of_all ops) m ≡ 0
unfolding choice_takers
none-counted ops g zero l = refl
none-counted ops g (suc m) l = rw (none-counted ops g m (omega arith), code_at ops m l, gate-code (op_at ops m) (g m l))
