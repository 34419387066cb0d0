-- What an accepted book hands to a run.
-- Assumes nothing.
use Rattle.std.proofs.Common.{None, Result, Ok}
use mathlib.Core.Path.{◌≡◌, sym, ap, ◌∙◌}
use mathlib.Core.Bool.{true, and-eq-true_iff}
use mathlib.Core.List.{List}
use Prim.Native.Nat.{ℕ, ◌*◌, ◌%◌, ◌≤◌}
use native.Mathlib.Omega.{arith}
use lib.Dec.{eqb, leb}
use lib.ListN.{length}
use borrow.Author.Tests.{leb-true}
use Rattle.modular.specs.Dimension.{listed}
use Rattle.tableau.specs.Tableau.{sized}
use Rattle.tableau.proofs.Sized.{sized-most}
use Rattle.circuit.specs.Circuit.{measured, measurement_count, chosen, choice_count, Accepted}
use Rattle.book_body.specs.declared.Numbers.{Numbers}
use Rattle.answer.specs.declared.Refusal.{Refusal}
use Rattle.book_body.specs.Body.{measurements, accepted, answer_of, measured_of, measured_by}
use Rattle.book_body.proofs.Sound.{no_refusal}
use Rattle.book.specs.Book.{operations_entry, errors_entry, choices_entry, length_of, part_of, bad_contents, read_book, body_of}
use Rattle.book.specs.Decoded.{operations_of, errors_of, measurements_in, Bodies}
use Rattle.book.proofs.Contents.{all-passed, Inside, inside, laid, part_length, by_kind}
use Rattle.book.proofs.Meaning.{accepted-means}

few-choices : (s : List ℕ) → bad_contents s ≡ None → length (part_of s choices_entry) ≤ 4096
few-choices s e =
    let l = laid s e in
    let b = ((and-eq-true_iff (eqb (length_of s choices_entry % 1) 0) (leb (length_of s choices_entry) (1 * 4096))).0 l.third.whole).1 in
    omega (arith, leb-true (length_of s choices_entry) (1 * 4096) b, part_length s choices_entry (omega (arith, l.ends)))

pub record Handed (s : List ℕ) (d n measurements : ℕ) : Type 0 where
  pub operations : ℕ
  pub errors : ℕ
  pub choices : ℕ
  pub reads : read_book s ≡ accepted d n operations errors choices
  pub dimension : listed d ≡ true
  pub qudits-sized : sized n ≡ true
  pub qudits : n ≤ 64
  pub bodies : Inside s
  pub first : body_of s 1 ≡ part_of s operations_entry
  pub second : body_of s 2 ≡ part_of s errors_entry
  pub third : body_of s 3 ≡ part_of s choices_entry
  pub lists : Accepted d n (operations_of d n (part_of s operations_entry)) (errors_of (part_of s errors_entry)) (part_of s choices_entry)
  pub few : length (part_of s choices_entry) ≤ 4096
  pub counted : measurements_in s d n ≡ measurements
  pub counted-part : measurement_count (operations_of d n (part_of s operations_entry)) ≡ measurements

pub handed-reads : (s : List ℕ) {d n operations errors choices measurements : ℕ} → read_book s ≡ accepted d n operations errors choices
    → measurements_in s d n ≡ measurements
    → Handed s d n measurements
handed-reads s {d} {n} {operations} {errors} {choices} reads counted =
    let m = accepted-means s d n operations errors choices reads in
    let p = all-passed s (no_refusal d n operations errors choices) reads in
    let b1 = by_kind s 1 reads in
    let b2 = by_kind s 2 reads in
    let b3 = by_kind s 3 reads in
    record {
      operations = operations;
      errors = errors;
      choices = choices;
      reads = reads;
      dimension = m.dimension-listed;
      qudits-sized = m.qudits-sized;
      qudits = sized-most n m.qudits-sized;
      bodies = inside s p.head p.contents;
      first = b1;
      second = b2;
      third = b3;
      lists = rw (← b1, ← b2, ← b3) m.lists;
      few = few-choices s p.contents;
      counted = counted;
      counted-part = ap (λ (ops : List ℕ). measurement_count (operations_of d n ops)) (sym b1) ∙ counted;
    }

pub handed : (s : List ℕ) {reading : Result Numbers Refusal} {b : Numbers}
    → answer_of reading ≡ read_book s → measured_of reading ≡ measured_by (part_of s operations_entry) (answer_of reading) → reading ≡ Ok b
    → Handed s b.d b.n b.measurements
handed s {reading} {b} e counts f =
    let reads = sym e ∙ ap answer_of f in
    let m = accepted-means s b.d b.n b.operations b.errors b.choices reads in
    let own : b.measurements ≡ measurements (part_of s operations_entry) b.operations =
    sym (ap measured_of f) ∙ counts ∙ ap (λ (r : Result Numbers Refusal). measured_by (part_of s operations_entry) (answer_of r)) f in
    handed-reads s reads
    (ap (measured (operations_of b.d b.n (body_of s 1))) m.operation_count
    ∙ m.measurement-count
    ∙ ap (λ (ops : List ℕ). measurements ops b.operations) (by_kind s 1 reads)
    ∙ sym own)

-- the bodies as a run is handed them
pub bodies_of : (s : List ℕ) {d n measurements : ℕ} {ops errors cs : List ℕ} → Handed s d n measurements → ops ≡ part_of s operations_entry → errors ≡ part_of s errors_entry
    → cs ≡ part_of s choices_entry
    → Bodies d n ops errors cs
bodies_of s g a b c = rw (a, b, c) (record { dimension = g.dimension; qudits = g.qudits; lists = g.lists; few = g.few })

-- the reader's count of choices is that of the operations that take one
pub choices-counted : (s : List ℕ) {reading : Result Numbers Refusal} {b : Numbers} → answer_of reading ≡ read_book s → reading ≡ Ok b
    → b.choices ≡ choice_count (operations_of b.d b.n (part_of s operations_entry))
choices-counted s {reading} {b} e f =
    let reads = sym e ∙ ap answer_of f in
    let m = accepted-means s b.d b.n b.operations b.errors b.choices reads in
    sym m.choices-taken
    ∙ ap (chosen (operations_of b.d b.n (body_of s 1))) (sym m.operation_count)
    ∙ ap (λ (ops : List ℕ). choice_count (operations_of b.d b.n ops)) (by_kind s 1 reads)
