-- The mirror of a whole book: the reader accepts it, and both runs go by the lists.
-- Assumes nothing.
use Rattle.std.proofs.Common.{None}
use mathlib.Core.Path.{◌≡◌, refl, sym, ap, subst, ◌∙◌}
use mathlib.Core.Bool.{true}
use mathlib.Core.List.{List, [], ◌∷◌}
use Prim.Native.Nat.{ℕ, ◌%◌, ◌/◌, ◌<◌, ◌≤◌}
use native.Mathlib.Nat.{le_refl}
use native.Mathlib.Omega.{arith}
use lib.ListN.{length, drop, take-append-drop}
use lib.Seq.{take_at, drop_at}
use borrow.Author.Tests.{eq-eqb, le-leb}
use Rattle.modular.specs.Dimension.{Dimension}
use Rattle.modular.proofs.Listed.{dimension}
use Rattle.search.specs.Search.{first_not}
use Rattle.operation.specs.declared.Operation.{Operation}
use Rattle.operation.specs.declared.WeylError.{WeylError}
use Rattle.operation.specs.Operation.{allowed}
use Rattle.validity.specs.Validity.{Valid}
use Rattle.saved_tableau.specs.Saved.{rows_in, with_rows, tableau_bytes, valid_for}
use Rattle.saved_tableau_laws.specs.Exactly.{SelfValid}
use Rattle.saved_tableau_laws.proofs.Rows.{opened, same_bytes, rows_back}
use Rattle.saved_tableau_laws.proofs.Exactly.{self-valid-exactly, valid-for, valid-rows}
use Rattle.circuit.specs.Circuit.{op_at, measurement_count, Accepted}
use Rattle.book_body.specs.Body.{length_fits, bad_error, bad_choice, accepted, read_bodies}
use Rattle.book.specs.Book.{read_book, body_of}
use Rattle.book.specs.Decoded.{Means, ops_in, errors_in, choices_in, measurements_in}
use Rattle.book.proofs.Contents.{whole-operations}
use Rattle.book.proofs.Lists.{op-count}
use Rattle.book.proofs.Meaning.{accepted-means}
use Rattle.written_book.specs.Written.{read_parts, HasBodies}
use Rattle.written_book.proofs.Read.{book-length, reads-written, bodies-back}
use Rattle.runs.specs.Direct.{state_of, direct_run}
use Rattle.runs.specs.Frame.{no_frame, shift_rows}
use Rattle.runs.specs.Raised.{final_frame}
use Rattle.run_laws.proofs.Books.{without_errors}
use Rattle.run_laws.proofs.Sound.{run_keeps-valid}
use Rattle.halts.specs.Halt.{finished}
use Rattle.direct_book.specs.DirectBook.{direct_reached, direct_ended, direct_book}
use Rattle.book_laws.proofs.Refusals.{accepted-mirrored}
use Rattle.book_laws.proofs.Left.{direct-ended}
use Rattle.book_laws.proofs.Clean.{no-errors}
use Rattle.book_laws.proofs.WithoutErrors.{empty}
use Rattle.mirror_book.specs.Mirrored.{mirrored}
use Rattle.mirror_book.specs.MirrorBook.{bytes_of_all, mirror_of, mirror_bytes, first_measurement, mirror_book}
use Rattle.mirror_book.proofs.Mirrored.{mirrored-length}
use Rattle.mirror_book.proofs.Body.{body-length, entry-count, read_again, none-bad, none-counted}
use Rattle.mirror_laws.specs.Lists.{rows_after_both}
use Rattle.mirror_laws.specs.Books.{IsMirror, MirrorAccepted, MirrorFilled, FillsMirror, Start, Ends, MirrorReturns, carried_through, MirrorCarries}
use Rattle.mirror_laws.proofs.Lists.{gates_of, none-measured, mirrored-gates, mirrored-allowed, lists_return, lists_carry}

module _ (s : List ℕ) {d n operations errors choices : ℕ} (e : read_book s ≡ accepted d n operations errors choices)
    (none : first_measurement (ops_in s d n) ≡ None) where
  means : Means s d n operations errors choices
  means = accepted-means s d n operations errors choices e

  dim : Dimension d
  dim = dimension d means.dimension-listed

  abbrev ops : List Operation
  ops = ops_in s d n

  abbrev mirror : List ℕ
  mirror = mirror_of d n s

  abbrev body : List ℕ
  body = bytes_of_all (mirrored d ops)

  good : (k : ℕ) → k < length (mirrored d ops) → allowed d n (op_at (mirrored d ops) k) ≡ true
  good = mirrored-allowed d ops n dim means.lists.operations

  count : length (mirrored d ops) ≡ operations
  count = mirrored-length d ops ∙ means.operation_count

  -- the mirror's body has the length of the book's, which is whole entries and not too many
  whole : length_fits (length body) 4 4096 ≡ true
  whole =
      let fits = whole-operations s e in
      let size : length body ≡ length (body_of s 1) = omega (arith, body-length (mirrored d ops), mirrored-length d ops, op-count d n (body_of s 1), fits.0) in
      rw (size, eq-eqb (length (body_of s 1) % 4) 0 fits.0, le-leb (length (body_of s 1)) 16384 fits.1)

  accepts : read_book mirror ≡ accepted d n operations 0 0
  unfolding read_parts read_bodies bad_error bad_choice first_not
  accepts =
      let o : length body / 4 ≡ operations = entry-count (mirrored d ops) ∙ count in
      let m : operations ≤ length (mirrored d ops) = omega (arith, count) in
      rw (
        reads-written d n body [] [],
        means.dimension-listed,
        means.qudits-sized,
        whole,
        none-bad d n (mirrored d ops) good (mirrored-gates d ops (gates_of ops none)),
        o,
        none-counted (mirrored d ops) (mirrored-gates d ops (gates_of ops none)) operations m,
      )

  bodies : HasBodies mirror body [] []
  bodies = bodies-back d n body [] [] operations 0 0 accepts

  pub reads : ops_in mirror d n ≡ mirrored d ops
  reads = rw bodies.operations-back (read_again d n (mirrored d ops) good)

  reads-no-errors : errors_in mirror ≡ []
  reads-no-errors = rw bodies.errors-back no-errors

  is-mirror : IsMirror d n operations s mirror
  is-mirror =
      record {
        accepts = accepts;
        reads = reads;
        size = book-length d n body [] [] ∙ omega (arith, body-length (mirrored d ops), count);
      }

  measures-none : measurements_in s d n ≡ 0
  measures-none = none-measured ops (gates_of ops none) (length ops) (le_refl (length ops))

  mirror-measures-none : measurements_in mirror d n ≡ 0
  mirror-measures-none =
      rw reads (none-measured (mirrored d ops) (mirrored-gates d ops (gates_of ops none)) (length (mirrored d ops)) (le_refl (length (mirrored d ops))))

  module _ (t results results' : List ℕ) (start : Start d n t) where
    for : valid_for d n t ≡ true
    for = valid-for t start.valid start.dimension start.qudits

    ok : Valid d n (rows_in t)
    ok = valid-rows t start.room for

    two : 2 ≤ length t
    two = omega (arith, start.room)

    abbrev rows : List ℕ
    rows = (direct_run d n ops (errors_in s) (choices_in s) (state_of (rows_in t) results)).rows

    abbrev after : List ℕ
    after = with_rows t rows

    rows-valid : Valid d n rows
    rows-valid = run_keeps-valid d n dim ops (errors_in s) (choices_in s) means.lists (state_of (rows_in t) results) ok

    -- the tableau between the runs is one that the second run takes
    after-room : tableau_bytes n ≤ length after
    after-room = rw (opened t rows two) (omega (arith, rows-valid.room))

    after-for : valid_for d n after ≡ true
    after-for =
        let saved : SelfValid (d ∷ n ∷ rows) = record { dimension = means.dimension-listed; qudits = means.qudits-sized; rows = rows-valid } in
        rw (opened t rows two, start.dimension, start.qudits)
        (valid-for (d ∷ n ∷ rows) ((self-valid-exactly (d ∷ n ∷ rows) (omega (arith, rows-valid.room))).1 saved) refl refl)

    there : direct_book s t results ≡ direct_ended s t results d n
    there = direct-ended s t results e start.room (omega (arith, measures-none)) for

    back : direct_book mirror after results'
        ≡ direct_reached (measurement_count (mirrored d ops)) (finished (length (mirrored d ops))) after (direct_run d n (mirrored d ops) [] [] (state_of rows results'))
    back =
        rw (reads, reads-no-errors, bodies.choices-back, rows_back t rows two) at
        (direct-ended mirror after results' accepts after-room (omega (arith, mirror-measures-none)) after-for)

    -- both runs end, and the rows are what the lists say of them, behind the same two bytes
    ends : (left : List ℕ) → (direct_run d n (mirrored d ops) [] [] (state_of rows results')).rows ≡ left
        → Ends (direct_book s t results) (direct_book mirror (direct_book s t results).tableau results') (with_rows t left)
    ends left h =
        rw (there, back)
        (record { first_ends = refl; second-ends = refl; leaves = rw (same_bytes t rows two, h) })

pub mirror-accepted : MirrorAccepted
mirror-accepted s d n operations errors choices e none = is-mirror s e none

pub fills_mirror : FillsMirror
unfolding mirror_book
fills_mirror s out d n operations errors choices e =
    rw e
    (accepted-mirrored s out (λ left. left.number ≡ 0 → MirrorFilled d n operations s out left) d n operations errors choices
    (λ k h. absurd (omega arith))
    (λ h. absurd (omega arith))
    (λ none h.
    let size = (is-mirror s e none).size in
    record {
      gates = none;
      count = refl;
      book = take_at (mirror_of d n s) (drop (length (mirror_of d n s)) out) (mirror_bytes operations) size;
      kept = rw (← size) (drop_at (mirror_of d n s) (drop (length (mirror_of d n s)) out) (length (mirror_of d n s)) refl);
    }))

-- the rows of a book that has no errors
rows-back-clean : (d n : ℕ) → Dimension d → (ops : List Operation) (errors : List WeylError) (choices : List ℕ) → errors ≡ [] → Accepted d n ops errors choices
    → first_measurement ops ≡ None
    → (t results results' : List ℕ) → Valid d n t
    → rows_after_both d n ops errors choices t results results' ≡ t
rows-back-clean d n dim ops errors choices e ac none t results results' ok =
    subst (λ (es : List WeylError). rows_after_both d n ops es choices t results results' ≡ t) (sym e)
    (lists_return d n dim ops choices (without_errors ac) none t results results' ok)

pub mirror_returns : MirrorReturns
mirror_returns s d n operations choices e none t results results' start =
    let m = accepted-means s d n operations _ choices e in
    let clean = empty (errors_in s) m.error-count in
    rw (take-append-drop 2 t) at
    (ends s e none t results results' start (rows_in t)
    (rows-back-clean d n (dimension d m.dimension-listed) (ops_in s d n) (errors_in s) (choices_in s) clean m.lists none (rows_in t) results results'
    (ok s e none t results results' start)))

pub mirror-carries : MirrorCarries
mirror-carries s d n operations errors choices e none t results results' start =
    let m = accepted-means s d n operations errors choices e in
    let F = carried_through d n s (no_frame n) in
    let through : carried_through d n (mirror_of d n s) F ≡ final_frame d n (mirrored d (ops_in s d n)) [] F = rw (reads s e none, reads-no-errors s e none) in
    ends s e none t results results' start (shift_rows d n (carried_through d n (mirror_of d n s) F) (rows_in t))
    (lists_carry d n (dimension d m.dimension-listed) (ops_in s d n) (errors_in s) (choices_in s) m.lists none (rows_in t) results results'
    (ok s e none t results results' start)
    ∙ ap (λ (G : List ℕ). shift_rows d n G (rows_in t)) (sym through))
