-- An entry and the one that undoes it differ in the last byte alone, and the tables have that byte.
-- Assumes nothing.
use mathlib.Core.Path.{◌≡◌, refl, ap, ◌∙◌}
use mathlib.Core.Bool.{true, false≢true}
use mathlib.Core.List.{List, [], ◌∷◌}
use Prim.Native.Nat.{ℕ, zero, suc, ◌+◌, ◌-◌, ◌*◌, ◌/◌, ◌<◌, ◌≤◌}
use native.Mathlib.Omega.{arith}
use lib.ListN.{length, get_or, set}
use borrow.Author.Tests.{ne_eqb}
use Rattle.modular.specs.Dimension.{Dimension}
use Rattle.modular.proofs.Listed.{dimension}
use Rattle.tableau.specs.Tableau.{put}
use Rattle.operation.specs.declared.Operation.{Operation}
use Rattle.operation.specs.declared.Operation.TheVariants.{Fourier, PhaseGate, Sum, Cz, Swap, Multiplier, Measure, Reset, Correct}
use Rattle.operation.specs.Operation.{allowed}
use Rattle.operation.proofs.Operands.{single-facts, pair-facts}
use Rattle.circuit.specs.Circuit.{op_at, gate, kind}
use Rattle.book_entries.specs.Entry.{times_in, times_byte, bytes_of}
use Rattle.book_entries.proofs.Decoding.{spelt_once}
use Rattle.book.specs.Decoded.{operations_of}
use Rattle.book.proofs.Lists.{op-count}
use Rattle.operation_codes.proofs.Codes.{own-bytes}
use Rattle.mirror_book.specs.Undoing.{undoing}
use Rattle.mirror_book.specs.MirrorBook.{is_gate}
use Rattle.mirror_book.specs.Mirrored.{mirror_at}
use Rattle.mirror_writer.specs.LastByte.{orders_of, undone_byte}
use Rattle.mirror_writer.specs.Ready.{Entries}

-- what `undone_byte` asks of a code and a last byte
pub record Asked (d b0 b3 : ℕ) : Type 0 where
  pub code : b0 ≤ 6
  pub small : b3 < 32
  pub within : times_in b3 ≤ get_or (orders_of d) b0 0

-- the last byte of a power from 1 to m − 1 is at most that, and is read as it
power-byte : (k : ℕ) → 0 < k → (times_byte k ≤ k) × (times_in (times_byte k) ≡ k)
power-byte zero l = absurd (omega arith)
power-byte (suc zero) l = (omega arith, refl)
power-byte (suc (suc k)) l = (rw (ne_eqb (suc (suc k)) 1 (λ e. omega arith)) (omega arith), (spelt_once (suc (suc k)) l).0)

module _ (d n : ℕ) (dim : Dimension d) where
  byte : Operation → ℕ → ℕ
  byte op i = get_or (bytes_of op) i 0

  asked : (op : Operation) → allowed d n op ≡ true → kind op ≡ gate → Asked d (byte op 0) (byte op 3)
  unfolding byte bytes_of
  asked (Fourier q k) h g =
      let (_, low, high) = single-facts 4 n q k h in
      let (least, same) = power-byte k low in
      record { code = omega arith; small = omega arith; within = rw same (omega arith) }
  asked (PhaseGate q k) h g =
      let (_, low, high) = single-facts d n q k h in
      let (least, same) = power-byte k low in
      record { code = omega arith; small = omega (arith, dim.high); within = rw same (omega arith) }
  asked (Sum c t k) h g =
      let (_, _, _, low, high) = pair-facts d n c t k h in
      let (least, same) = power-byte k low in
      record { code = omega arith; small = omega (arith, dim.high); within = rw same (omega arith) }
  asked (Cz c t k) h g =
      let (_, _, _, low, high) = pair-facts d n c t k h in
      let (least, same) = power-byte k low in
      record { code = omega arith; small = omega (arith, dim.high); within = rw same (omega arith) }
  asked (Swap c t) h g = record { code = omega arith; small = omega arith; within = omega arith }
  asked (Multiplier q u) h g = let (_, low, high) = single-facts d n q u h in record { code = omega arith; small = omega (arith, dim.high); within = factor u low high }
    where
      factor : (u : ℕ) → 0 < u → u < d → times_in u ≤ d
      factor zero low high = absurd (omega arith)
      factor (suc u) low high = rw (ne_eqb (suc u) 0 (λ e. omega arith)) (omega arith)
  asked (Measure q) h g = absurd (false≢true (ap is_gate g))
  asked (Reset q) h g = absurd (false≢true (ap is_gate g))
  asked (Correct t m) h g = absurd (false≢true (ap is_gate g))

  -- the bytes of an operation, with another last byte, are those of the one that undoes it
  undone : (op : Operation) → allowed d n op ≡ true → kind op ≡ gate
      → byte op 0 ∷ byte op 1 ∷ byte op 2 ∷ undone_byte d (byte op 0) (byte op 3) ∷ [] ≡ bytes_of (undoing d op)
  unfolding byte bytes_of
  undone (Fourier q k) h g = rw (power-byte k (single-facts 4 n q k h).1).1
  undone (PhaseGate q k) h g = rw (power-byte k (single-facts d n q k h).1).1
  undone (Sum c t k) h g = rw (power-byte k (pair-facts d n c t k h).3).1
  undone (Cz c t k) h g = rw (power-byte k (pair-facts d n c t k h).3).1
  undone (Swap c t) h g = refl
  undone (Multiplier q u) h g = refl
  undone (Measure q) h g = absurd (false≢true (ap is_gate g))
  undone (Reset q) h g = absurd (false≢true (ap is_gate g))
  undone (Correct t m) h g = absurd (false≢true (ap is_gate g))

-- the four bytes of a list that is known
at_byte : {v : List ℕ} (a b c x : ℕ) → a ∷ b ∷ c ∷ x ∷ [] ≡ v → (a ≡ get_or v 0 0) × (b ≡ get_or v 1 0) × (c ≡ get_or v 2 0) × (x ≡ get_or v 3 0)
at_byte a b c x e = rw (← e) (refl, refl, refl, refl)

-- entry j of a body whose entries are allowed
module _ (d n : ℕ) (dim : Dimension d) (ops : List ℕ) (j : ℕ) (inside : j < length ops / 4) (h : allowed d n (op_at (operations_of d n ops) j) ≡ true)
    (g : kind (op_at (operations_of d n ops) j) ≡ gate) where
  abbrev op : Operation
  op = op_at (operations_of d n ops) j

  abbrev at : ℕ → ℕ
  at i = get_or ops (4 * j + i) 0

  abbrev code : ℕ
  code = get_or ops (4 * j) 0

  own : (code ≡ get_or (bytes_of op) 0 0) × (at 1 ≡ get_or (bytes_of op) 1 0) × (at 2 ≡ get_or (bytes_of op) 2 0) × (at 3 ≡ get_or (bytes_of op) 3 0)
  own = at_byte code (at 1) (at 2) (at 3) (own-bytes d n ops j inside h)

  entry-asked : Asked d code (at 3)
  unfolding byte
  entry-asked = rw (own.0, own.3) (asked d n dim op h g)

  entry-undone : code ∷ at 1 ∷ at 2 ∷ undone_byte d code (at 3) ∷ [] ≡ bytes_of (undoing d op)
  unfolding byte
  entry-undone = rw (own.0, own.1, own.2, own.3) (undone d n dim op h g)

-- four stores, one behind the other
stored : (v : List ℕ) (i a b c x : ℕ) → i + 3 < length v
    → set (set (set (set v i a) (suc i) b) (suc (suc i)) c) (suc (suc (suc i))) x ≡ put i 4 (a ∷ b ∷ c ∷ x ∷ []) v
unfolding put
stored [] i a b c x l = absurd (omega arith)
stored (y ∷ []) zero a b c x l = absurd (omega arith)
stored (y ∷ y' ∷ []) zero a b c x l = absurd (omega arith)
stored (y ∷ y' ∷ z ∷ []) zero a b c x l = absurd (omega arith)
stored (y ∷ y' ∷ z ∷ z' ∷ v) zero a b c x l = refl
stored (y ∷ v) (suc i) a b c x l = ap (λ (w : List ℕ). y ∷ w) (stored v i a b c x (omega arith))

four-stored : (v : List ℕ) (i a b c x : ℕ) → i + 3 < length v
    → set (set (set (set v i a) (i + 1) b) (i + 2) c) (i + 3) x ≡ put i 4 (a ∷ b ∷ c ∷ x ∷ []) v
four-stored v i a b c x l =
    let p : i + 1 ≡ suc i = omega arith in
    let q : i + 2 ≡ suc (suc i) = omega arith in
    let r : i + 3 ≡ suc (suc (suc i)) = omega arith in
    rw (p, q, r) (stored v i a b c x l)

-- entry k of the mirror is made of entry N − 1 − k of N
module _ (d n : ℕ) (ops : List ℕ) (entries : Entries d n ops) (k : ℕ) (inside : k < length ops / 4) where
  abbrev from : ℕ
  from = length ops / 4 - 1 - k

  dim : Dimension d
  dim = dimension d entries.dimension

  low : from < length ops / 4
  low = omega arith

  good : allowed d n (op_at (operations_of d n ops) from) ≡ true
  good = entries.operations from (rw (op-count d n ops) low)

  gated : kind (op_at (operations_of d n ops) from) ≡ gate
  gated = entries.gates from (rw (op-count d n ops) low)

  pub from-asked : Asked d (get_or ops (4 * from) 0) (get_or ops (4 * from + 3) 0)
  from-asked = entry-asked d n dim ops from low good gated

  pub mirror-stored : (body : List ℕ) → length body ≡ length ops
      → set (set (set (set body (4 * k) (get_or ops (4 * from) 0)) (4 * k + 1) (get_or ops (4 * from + 1) 0)) (4 * k + 2) (get_or ops (4 * from + 2) 0)) (4 * k + 3)
      (undone_byte d (get_or ops (4 * from) 0) (get_or ops (4 * from + 3) 0))
      ≡ put (4 * k) 4 (bytes_of (mirror_at d (operations_of d n ops) k)) body
  mirror-stored body same =
      let q : from ≡ length (operations_of d n ops) - suc k = omega (arith, op-count d n ops) in
      four-stored body (4 * k) _ _ _ _ (omega (arith, entries.whole))
      ∙ ap (λ (v : List ℕ). put (4 * k) 4 v body) (entry-undone d n dim ops from low good gated ∙ ap (λ (i : ℕ). bytes_of (undoing d (op_at (operations_of d n ops) i))) q)
