-- The laws of the sheet over lists, for whole books.
-- Assumes nothing.
use mathlib.Core.Path.{◌≡◌, refl, sym, ap, ◌∙◌}
use mathlib.Core.List.{List, []}
use Prim.Native.Nat.{ℕ, zero, suc, ◌*◌, ◌<◌, ◌≤◌}
use native.Mathlib.Nat.{le_refl}
use native.Mathlib.Omega.{arith}
use lib.Dec.{leb}
use lib.ListN.{length}
use borrow.Author.Tests.{le-leb}
use Rattle.modular.specs.Dimension.{Dimension}
use Rattle.modular.proofs.Listed.{dimension}
use Rattle.search.specs.Search.{unless}
use Rattle.saved_tableau.specs.Saved.{rows_in}
use Rattle.operation.specs.declared.Operation.{Operation}
use Rattle.operation.specs.declared.WeylError.{WeylError}
use Rattle.circuit.specs.Circuit.{err_at, measured, measurement_count}
use Rattle.book_body.specs.Body.{accepted}
use Rattle.book.specs.Book.{read_book}
use Rattle.book.specs.Decoded.{Means, operations_of, ops_in, errors_in, choices_in, measurements_in}
use Rattle.book.proofs.Meaning.{accepted-means}
use Rattle.written_book.specs.Errorless.{errorless, ErrorsRemoved}
use Rattle.written_book.proofs.Errorless.{errorless-accepted}
use Rattle.runs.specs.Direct.{state_of, direct_run}
use Rattle.runs.proofs.Results.{measured-more}
use Rattle.run_laws.proofs.Books.{named_in}
use Rattle.run_laws.proofs.Results.{related_none, Equal}
use Rattle.run_laws.proofs.Buffers.{Twin, twin_run}
use Rattle.direct_book.specs.DirectBook.{direct_book}
use Rattle.frame_run.specs.FrameBook.{Buffers, frame_book}
use Rattle.book_laws.specs.Lent.{Lent}
use Rattle.book_laws.proofs.Left.{window, direct-left, frame-left}
use Rattle.book_laws.proofs.Clean.{no-errors}
use Rattle.sheet.specs.Weights.{sheet_bytes, sheet_in, weighed}
use Rattle.sheet.specs.SheetBook.{SheetLeft, sheet_by_answer, sheet_book}
use Rattle.sheet.proofs.Bytes.{sheet_x, sheet_z, sheet-rest, sheet-length}
use Rattle.sheet_laws.specs.Lists.{SamePlaces}
use Rattle.sheet_laws.proofs.Lists.{frame-weighed, none_before, sheet_of_places}
use Rattle.sheet_book_laws.specs.Books.{SameCircuit, SheetOfCircuit, sum_by_sheet, RunsWeighed, SheetWeighs, SheetFills}

-- what is left of an accepted book
left_of : (s : List ℕ) {d n o e c : ℕ} → read_book s ≡ accepted d n o e c → (sheet : List ℕ) → sheet_bytes (ops_in s d n) (errors_in s) ≤ length sheet
    → sheet_book s sheet ≡ record { number = 0; place = measurements_in s d n; sheet = sheet_in d n (ops_in s d n) (errors_in s) sheet }
unfolding sheet_book sheet_by_answer
left_of s {d} {n} e sheet room = rw (e, le-leb (sheet_bytes (ops_in s d n) (errors_in s)) (length sheet) room)

-- by the two lists
by-lists : (d n : ℕ) (ops : List Operation) (errors : List WeylError) (sheet : List ℕ) → SheetLeft
by-lists d n ops errors sheet =
    unless (leb (sheet_bytes ops errors) (length sheet)) (record { number = 8; place = 0; sheet = sheet })
    (record { number = 0; place = measurement_count ops; sheet = sheet_in d n ops errors sheet })

is-by-lists : (s : List ℕ) {d n o e c : ℕ} → read_book s ≡ accepted d n o e c → (sheet : List ℕ) → sheet_book s sheet ≡ by-lists d n (ops_in s d n) (errors_in s) sheet
unfolding sheet_book sheet_by_answer by-lists
is-by-lists s e sheet = rw e

by-same : (d n : ℕ) (ops : List Operation) (errors errors' : List WeylError) (sheet : List ℕ) → SamePlaces errors errors'
    → by-lists d n ops errors sheet ≡ by-lists d n ops errors' sheet
unfolding by-lists
by-same d n ops errors errors' sheet same =
    let refused8 : SheetLeft = record { number = 8; place = 0; sheet = sheet } in
    let filled : List ℕ → SheetLeft = λ y. record { number = 0; place = measurement_count ops; sheet = y } in
    ap (λ (y : List ℕ). unless (leb (sheet_bytes ops errors) (length sheet)) refused8 (filled y)) (sheet_of_places d n ops errors errors' same sheet)
    ∙ ap (λ (k : ℕ). unless (leb (k * (2 * measurement_count ops)) (length sheet)) refused8 (filled (sheet_in d n ops errors' sheet))) same.as_many

pub sheet_of_circuit : SheetOfCircuit
sheet_of_circuit s s' d n o e c o' e' c' h h' same sheet =
    is-by-lists s h sheet
    ∙ ap (λ (b : List ℕ). by-lists d n (operations_of d n b) (errors_in s) sheet) same.operations
    ∙ by-same d n (ops_in s' d n) (errors_in s) (errors_in s') sheet same.entries
    ∙ sym (is-by-lists s' h' sheet)

-- the weights in the sheet are those of each entry
module _ (d n : ℕ) (ops : List Operation) (errors : List WeylError) (sheet : List ℕ) (room : sheet_bytes ops errors ≤ length sheet) (j : ℕ) (h : j < measurement_count ops) where
  sum_is : (i : ℕ) → i ≤ length errors → sum_by_sheet (sheet_in d n ops errors sheet) (measurement_count ops) errors j i ≡ weighed d n ops errors j i
  unfolding sum_by_sheet weighed
  sum_is zero l = refl
  sum_is (suc i) l =
      rw (sum_is i (omega arith), sheet_x d n ops errors sheet room i j l h, sheet_z d n ops errors sheet room i j l h)

earlier : (ops : List Operation) (place j : ℕ) → place ≤ length ops → j < measured ops place → j < measurement_count ops
earlier ops place j l k = omega (arith, measured-more ops place (length ops) l)

pub sheet_fills : SheetFills
sheet_fills s d n o e c h sheet room =
    let m = accepted-means s d n o e c h in
    let dim = dimension d m.dimension-listed in
    let ops = ops_in s d n in
    let errors = errors_in s in
    let few = none_before d n dim ops errors (choices_in s) m.lists in
    rw (left_of s h sheet room)
    (record {
      number = refl;
      place = refl;
      before = λ i j l k.
          let g = earlier ops (err_at errors i).place j (m.lists.places i l) k in (
            sheet_x d n ops errors sheet room i j l g ∙ (few i l j k).0,
            sheet_z d n ops errors sheet room i j l g ∙ (few i l j k).1,
          );
      kept = sheet-rest d n ops errors sheet room;
      long = sheet-length d n ops errors sheet room;
    })

module _ (s s' : List ℕ) {d n o e c o' e' c' : ℕ} (h : read_book s ≡ accepted d n o e c) (h' : read_book s' ≡ accepted d n o' e' c') (same : SameCircuit s s')
    (sheet : List ℕ) (room : sheet_bytes (ops_in s d n) (errors_in s) ≤ length sheet)
    {t results : List ℕ} {lent : Buffers} (given : Lent d n (measurements_in s' d n) t results lent) where
  means : Means s' d n o' e' c'
  means = accepted-means s' d n o' e' c' h'

  dim : Dimension d
  dim = dimension d means.dimension-listed

  taken : ErrorsRemoved d n o' c' s'
  taken = errorless-accepted s' d n o' e' c' h'

  abbrev ops : List Operation
  ops = ops_in s' d n

  abbrev errors : List WeylError
  errors = errors_in s'

  -- the sheet is that of s' as well
  left_is : (sheet_book s sheet).sheet ≡ sheet_in d n ops errors sheet
  left_is =
      ap (λ (x : SheetLeft). x.sheet) (sheet_of_circuit s s' d n o e c o' e' c' h h' same sheet)
      ∙ ap (λ (x : SheetLeft). x.sheet) (left_of s' h' sheet room')
    where
      room' : sheet_bytes ops errors ≤ length sheet
      room' = rw (← same.operations, ← same.entries.as_many) room

  weighs : RunsWeighed d (measurements_in s' d n) (λ j. sum_by_sheet (sheet_book s sheet).sheet (measurements_in s d n) errors j (length errors))
      (direct_book (errorless d n s') t results) (frame_book s' lent)
  weighs =
      let a = frame-weighed d n dim ops errors (choices_in s') means.lists (state_of (rows_in lent.tableau) lent.results) lent.shifts lent.frame given.frame-results in
      let twin : Twin n (measurements_in s' d n) (measurements_in s' d n)
      (direct_run d n ops [] (choices_in s') (state_of (rows_in lent.tableau) lent.results)) (direct_run d n ops [] (choices_in s') (state_of (rows_in t) results)) =
      twin_run d n (omega (arith, dim.low)) ops [] (choices_in s') (named_in means.lists)
      (record { rows = window given; results = related_none Equal _ given.frame-results given.direct-results }) in
      rw (
        direct-left given (errorless d n s') taken.accepts (rw taken.same-operations),
        taken.same-operations,
        taken.no-errors,
        taken.same-choices,
        no-errors,
        frame-left given s' h' refl,
      )
      (record {
        clean-ends = refl;
        frame-ends = refl;
        outcomes = λ j l.
            a.outcomes j l
            ∙ rw (left_is, same.operations, sum_is d n ops errors sheet (rw (← same.operations, ← same.entries.as_many) room) j l (length errors) (le_refl (length errors)), twin.results.outcome j l);
        marks = λ j l. a.marks j l ∙ sym (twin.results.mark j l);
      })

pub sheet-weighs : SheetWeighs
sheet-weighs s s' d n o e c o' e' c' h h' same sheet room t results lent given = weighs s s' h h' same sheet room given
