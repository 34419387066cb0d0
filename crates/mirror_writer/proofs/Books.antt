-- What the call returns and leaves, for an accepted book: refused by 12, refused by 8, mirrored.
-- Assumes nothing.
use Rattle.std.proofs.Common.{Some, None}
use mathlib.Core.Path.{◌≡◌, refl, sym, ap, ◌∙◌}
use mathlib.Core.Bool.{true, false≢true}
use mathlib.Core.List.{List, []}
use Prim.Native.Nat.{ℕ, zero, suc, ◌+◌, ◌%◌, ◌<◌, ◌≤◌}
use native.Mathlib.Omega.{arith}
use lib.ListN.{length}
use borrow.Author.Tests.{lt-leb, le-leb, ltb-true}
use Rattle.search.specs.Search.{first_not}
use Rattle.search.proofs.Search.{all-good}
use Rattle.operation.specs.declared.Operation.{Operation}
use Rattle.operation.specs.declared.Operation.TheVariants.{Fourier, PhaseGate, Sum, Cz, Swap, Multiplier, Measure, Reset, Correct}
use Rattle.operation.specs.Operation.{named}
use Rattle.operation_codes.specs.Allowed.{AllAllowed, AllNamed}
use Rattle.runs.proofs.Results.{measured-chosen}
use Rattle.circuit.specs.Circuit.{op_at, Kind, gate, measures, resets, corrects, kind, choice_tally, chosen}
use Rattle.book.specs.Book.{operations_entry, part_of, body_of}
use Rattle.book.specs.Decoded.{operations_of}
use Rattle.book.proofs.Contents.{whole-operations}
use Rattle.book.proofs.Lists.{op-count}
use Rattle.book.proofs.Meaning.{accepted-means}
use Rattle.book.proofs.Handed.{Handed}
use Rattle.written_book.specs.Written.{book_of}
use Rattle.written_book.specs.Writer.{overwritten}
use Rattle.mirror_book.specs.Mirrored.{mirrored}
use Rattle.mirror_book.specs.MirrorBook.{bytes_of_all, mirror_bytes, is_gate, gate_at, first_measurement, mirror_by_answer, mirror_book}
use Rattle.mirror_writer.specs.Ready.{Entries}

-- where no choice is taken, nothing is measured and no measurement can be named: every operation is a gate
is-gate : (op : Operation) {earlier : ℕ} → choice_tally op ≡ 0 → named earlier op ≡ true → earlier ≡ 0 → is_gate (kind op) ≡ true
is-gate (Fourier q k) e h z = refl
is-gate (PhaseGate q k) e h z = refl
is-gate (Sum c t k) e h z = refl
is-gate (Cz c t k) e h z = refl
is-gate (Swap c t) e h z = refl
is-gate (Multiplier q u) e h z = refl
is-gate (Measure q) e h z = absurd (omega arith)
is-gate (Reset q) e h z = absurd (omega arith)
is-gate (Correct t m) {earlier} e h z = absurd (omega (arith, ltb-true m earlier h))

pub none_found : (ops : List Operation) → AllNamed ops → (m : ℕ) → m ≤ length ops → chosen ops m ≡ 0 → first_not (gate_at ops) m ≡ None
unfolding chosen first_not
none_found ops names zero l e = refl
none_found ops names (suc m) l e =
    rw (
      none_found ops names m (omega arith) (omega arith),
      is-gate (op_at ops m) (omega arith) (names m l) (omega (arith, measured-chosen ops m)),
    )

-- where none was found, every operation is one
all-gates : (ops : List Operation) → None ≡ first_measurement ops → (k : ℕ) → k < length ops → kind (op_at ops k) ≡ gate
all-gates ops none k l = by (kind (op_at ops k)) (all-good (gate_at ops) (length ops) (sym none) k l)
  where
    by : (x : Kind) → is_gate x ≡ true → x ≡ gate
    by gate e = refl
    by (measures q) e = absurd (false≢true e)
    by (resets q) e = absurd (false≢true e)
    by (corrects t m) e = absurd (false≢true e)

module _ (s : List ℕ) {d n measurements : ℕ} (g : Handed s d n measurements) {ops : List ℕ} (is : ops ≡ part_of s operations_entry) where
  own : ops ≡ body_of s 1
  own = is ∙ sym g.first

  fits : (length ops % 4 ≡ 0) × (length ops ≤ 16384)
  fits = rw own (whole-operations s g.reads)

  pub most : length ops ≤ 16384
  most = fits.1

  pub allows : AllAllowed d n (operations_of d n ops)
  allows = rw is g.lists.operations

  pub names : AllNamed (operations_of d n ops)
  names = rw is g.lists.names

  pub entries : None ≡ first_measurement (operations_of d n ops) → Entries d n ops
  entries none = record { dimension = g.dimension; whole = fits.0; operations = allows; gates = all-gates (operations_of d n ops) none }

  -- 4 bytes per operation
  sized : mirror_bytes g.operations ≡ 22 + length ops
  sized =
      let m = accepted-means s d n g.operations g.errors g.choices g.reads in
      omega (arith, m.operation_count, op-count d n (body_of s 1), ap length own, fits.0)

  module _ (out : List ℕ) where
    pub measuring-book : (index : ℕ) → Some index ≡ first_measurement (operations_of d n ops)
        → record { number = 12; place = index; out = out } ≡ mirror_book s out
    unfolding mirror_book mirror_by_answer
    measuring-book index e = rw (g.reads, ← own, ← e)

    below : length out < 22 + length ops → length out < mirror_bytes g.operations
    below l = omega (arith, sized)

    pub short-book : None ≡ first_measurement (operations_of d n ops) → length out < 22 + length ops
        → record { number = 8; place = 0; out = out } ≡ mirror_book s out
    unfolding mirror_book mirror_by_answer
    short-book e l = rw (g.reads, ← own, ← e, lt-leb _ _ (below l))

    pub mirrored-book : None ≡ first_measurement (operations_of d n ops) → 22 + length ops ≤ length out
        → record { number = 0; place = 22 + length ops; out = overwritten (book_of d n (bytes_of_all (mirrored d (operations_of d n ops))) [] []) out }
        ≡ mirror_book s out
    unfolding mirror_book mirror_by_answer
    mirrored-book e l = rw (g.reads, ← own, ← e, le-leb (mirror_bytes g.operations) (length out) (rw sized l), sized)
