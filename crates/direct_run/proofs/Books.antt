-- A book that the reader has accepted, by the tests of its buffers; and what its run leaves, where none of 1 to 9 refuses.
-- Assumes nothing.
use Rattle.std.proofs.Common.{Result, Ok}
use mathlib.Core.Path.{◌≡◌, sym, ap, ◌∙◌}
use mathlib.Core.Bool.{Bool, true, false, and-eq-true_iff}
use mathlib.Core.List.{List}
use Prim.Native.Nat.{ℕ, ◌+◌, ◌*◌, ◌<◌, ◌≤◌}
use native.Mathlib.Omega.{arith}
use lib.Dec.{leb}
use lib.ListN.{length}
use borrow.Author.Tests.{leb-true, le-leb, lt-leb}
use Rattle.saved_tableau.specs.Saved.{rows_in, tableau_bytes, valid_for}
use Rattle.book_body.specs.declared.Numbers.{Numbers}
use Rattle.answer.specs.declared.Refusal.{Refusal}
use Rattle.book_body.specs.Body.{refused, accepted, answer_of, measured_of, measured_by}
use Rattle.book.specs.Book.{operations_entry, part_of, read_book, body_of}
use Rattle.book.specs.Decoded.{ops_in, errors_in, choices_in, measurements_in}
use Rattle.book.proofs.Contents.{whole-operations}
use Rattle.book.proofs.Lists.{op-count}
use Rattle.book.proofs.Meaning.{accepted-means}
use Rattle.book.proofs.Handed.{Handed, handed}
use Rattle.runs.specs.Direct.{State, state_of}
use Rattle.halts.specs.Halt.{finished, next_of, direct_to}
use Rattle.halts.proofs.Goes.{to-finish}
use Rattle.direct_book.specs.DirectBook.{DirectLeft, direct_refused, direct_reached, direct_buffers_fit, direct_tested, direct_by, direct_book}
use Rattle.direct_book.specs.GoOn.{go_on_book}
use Rattle.direct_book.specs.Passes.{Passes}
use Rattle.direct_book.proofs.Tested.{tested-passes, passes-tested}

module _ (s : List ℕ) {d n measurements : ℕ} (g : Handed s d n measurements) (t results : List ℕ) where
  -- 8
  pub short-book : {b : Bool} → b ≡ direct_buffers_fit n measurements t results → b ≡ false → refused 8 0 ≡ direct_tested s t results (read_book s)
  unfolding direct_tested
  short-book {b} r h = rw (g.reads, g.counted, sym r ∙ h)

  -- not 8
  module _ {b : Bool} (r : b ≡ direct_buffers_fit n measurements t results) (h : b ≡ true) where
    fits : direct_buffers_fit n measurements t results ≡ true
    fits = sym r ∙ h

    pub room : tableau_bytes n ≤ length t
    room = leb-true _ _ ((and-eq-true_iff (leb (tableau_bytes n) (length t)) (leb (2 * measurements) (length results))).0 fits).0

    -- 9
    pub invalid-book : {v : Bool} → v ≡ valid_for d n t → v ≡ false → refused 9 0 ≡ direct_tested s t results (read_book s)
    unfolding direct_tested
    invalid-book {v} e k = rw (g.reads, g.counted, fits, sym e ∙ k)

    -- not 9
    pub tested-book : {v : Bool} → v ≡ valid_for d n t → v ≡ true → {operations errors choices : ℕ}
        → read_book s ≡ accepted d n operations errors choices
        → accepted d n operations errors choices ≡ direct_tested s t results (read_book s)
    unfolding direct_tested
    tested-book {v} e k reads = rw (reads, g.counted, fits, sym e ∙ k)

-- what the tests have let through
pub passed : (s t results : List ℕ) {reading : Result Numbers Refusal} {b : Numbers}
    → answer_of reading ≡ direct_tested s t results (read_book s) → measured_of reading ≡ measured_by (part_of s operations_entry) (answer_of reading)
    → reading ≡ Ok b
    → Passes s t results b.d b.n b.operations b.errors b.choices × (b.measurements ≡ measurements_in s b.d b.n)
passed s t results {reading} {b} e counts f =
    let g = tested-passes s t results (sym e ∙ ap answer_of f) in
    (g, sym (handed s (ap answer_of f ∙ sym g.reads) counts f).counted)

module _ (s t results : List ℕ) {d n operations errors choices : ℕ} (g : Passes s t results d n operations errors choices) where
  pub many : length (ops_in s d n) ≡ operations
  many = (accepted-means s d n operations errors choices g.reads).operation_count

  pub few : operations ≤ 4096
  few = omega (arith, many, op-count d n (body_of s 1), (whole-operations s g.reads).1)

  abbrev gone-to : (from next : ℕ) → DirectLeft
  gone-to from next =
      direct_reached (measurements_in s d n) next t (direct_to d n (ops_in s d n) (errors_in s) (choices_in s) from next (state_of (rows_in t) results))

  -- the whole run
  pub ended : {left : DirectLeft} → left ≡ gone-to 0 (operations + 1) → left ≡ direct_book s t results
  unfolding direct_book direct_by
  ended e =
      rw (passes-tested s t results g)
      (e
      ∙ ap (λ (k : ℕ). gone-to 0 (k + 1)) (sym many)
      ∙ ap (λ (st : State). direct_reached (measurements_in s d n) (finished (length (ops_in s d n))) t st)
      (to-finish d n (ops_in s d n) (errors_in s) (choices_in s) (state_of (rows_in t) results)))

  module _ (from count : ℕ) where
    -- 13
    pub past : operations + 1 < from → direct_refused 13 0 t results ≡ go_on_book s from count t results
    unfolding go_on_book direct_by
    past l = rw (passes-tested s t results g, lt-leb from (length (ops_in s d n) + 1) (omega (arith, many)))

    -- not 13
    pub gone : from ≤ operations + 1 → {next : ℕ} → next ≡ next_of operations from count → {left : DirectLeft} → left ≡ gone-to from next
        → left ≡ go_on_book s from count t results
    unfolding go_on_book direct_by
    gone l e x =
        rw (passes-tested s t results g, le-leb from (length (ops_in s d n) + 1) (omega (arith, many)))
        (x ∙ ap (gone-to from) (e ∙ ap (λ (k : ℕ). next_of k from count) (sym many)))
