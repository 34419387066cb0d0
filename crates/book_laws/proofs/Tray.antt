-- A tray's shots are the frame runs of their books, and are counted once each; the book's own errors are not used.
-- Assumes nothing.
use mathlib.Core.Path.{◌≡◌, refl, sym, ap, ◌∙◌}
use mathlib.Core.Bool.{Bool, true, false, cond}
use mathlib.Core.List.{List, ◌∷◌}
use Prim.Native.Nat.{ℕ, zero, suc, ◌+◌, ◌*◌, ◌/◌, ◌<◌, ◌≤◌}
use native.Mathlib.Nat.{le_refl}
use native.Mathlib.Omega.{arith}
use lib.Dec.{eqb, leb}
use lib.ListN.{length, get_or, take, length-drop}
use borrow.Author.Tests.{leb-true}
use Rattle.modular.specs.Dimension.{Dimension}
use Rattle.modular.proofs.Listed.{dimension}
use Rattle.search.specs.Search.{all}
use Rattle.search.proofs.Search.{both}
use Rattle.tableau.specs.Tableau.{part}
use Rattle.tableau.proofs.Parts.{part_length, part_at, each-length, each-rest}
use Rattle.saved_tableau.specs.Saved.{rows_in, tableau_bytes}
use Rattle.book_body.specs.Body.{length_fits, accepted}
use Rattle.book.specs.Book.{read_book, body_of}
use Rattle.book.specs.Decoded.{Means, ops_in, choices_in, errors_of, measurements_in}
use Rattle.book.proofs.Meaning.{accepted-means}
use Rattle.written_book.specs.Written.{HasBodies}
use Rattle.written_book.proofs.Read.{bodies-back}
use Rattle.written_book.proofs.Errorless.{with_errors, errorless-accepted}
use Rattle.tray.specs.Tray.{shots_in, length_at, start_of, shot_body}
use Rattle.tray.proofs.Table.{table_says, body-inside}
use Rattle.tray.proofs.GoodShots.{shot-good}
use Rattle.runs.specs.Direct.{state_of}
use Rattle.runs.specs.Frame.{FrameEnd, verdict_of, frame_leaves, frame_run_from, frame_run}
use Rattle.run_laws.proofs.Books.{named_in}
use Rattle.frame_run.specs.FrameBook.{Buffers, frame_buffers_fit, frame_ended, frame_by_answer, frame_book}
use Rattle.frame_run.proofs.Books.{room_of}
use Rattle.shots.specs.Shots.{run_of, shot_row, clean_among, shifted_among, filled_by, TrayLeft, tray_ended, tray_buffers_fit, tray_by_answer, tray_book}
use Rattle.shots.proofs.Same.{shot_any}
use Rattle.shots.proofs.Rows.{keeps, shot-at, counts_are}
use Rattle.shots.proofs.Refusals.{Goes, accepted_cases}
use Rattle.book_laws.specs.Tray.{shot_book, ShotRuns, ShotsAreFrameRuns, RestKept, TrayKeepsRest, verdicts_in, TrayCounts, OwnErrorsUnused}

module _ (s tray t out : List ℕ) {d n operations errors choices : ℕ} (e : read_book s ≡ accepted d n operations errors choices) where
  means : Means s d n operations errors choices
  means = accepted-means s d n operations errors choices e

  dim : Dimension d
  dim = dimension d means.dimension-listed

  -- what holds where nothing refuses the tray, holds where its number is 0
  goes_cases : (P : TrayLeft → Type 0) → (Goes d n operations s tray t out → P (tray_ended d n (ops_in s d n) (choices_in s) tray (rows_in t) out))
      → (tray_book s tray t out).number ≡ 0
      → P (tray_book s tray t out)
  unfolding tray_book
  goes_cases P goes =
      rw e
      (accepted_cases s tray t out (λ left. left.number ≡ 0 → P left) d n operations errors choices
      (λ h. absurd (omega arith))
      (λ k h. absurd (omega arith))
      (λ h. absurd (omega arith))
      (λ h. absurd (omega arith))
      (λ g h. goes g))

  module _ (g : Goes d n operations s tray t out) where
    rooms : (tableau_bytes n ≤ length t) × (shots_in tray * (1 + 2 * measurements_in s d n) ≤ length out)
    unfolding tray_buffers_fit
    rooms =
        let a = both (leb (tableau_bytes n) (length t)) _ g.room in
        (leb-true _ _ a.0, leb-true _ _ a.1)

    -- what is filled, in shots of w bytes
    abbrev filled : List ℕ
    filled = filled_by d n (ops_in s d n) (choices_in s) (rows_in t) tray out (shots_in tray)

    abbrev w : ℕ
    w = 1 + 2 * measurements_in s d n

    abbrev verdict : ℕ → ℕ
    verdict i = (run_of d n (ops_in s d n) (choices_in s) (rows_in t) tray i).verdict

    first_byte : (i : ℕ) → i < shots_in tray → get_or filled (i * w) 0 ≡ verdict i
    first_byte i l =
        let q : i * w + 0 ≡ i * w = omega arith in
        ap (λ (x : ℕ). get_or filled x 0) (sym q) ∙ sym (part_at (i * w) w filled 0 (omega arith))
        ∙ ap (λ (v : List ℕ). get_or v 0 0) (shot-at d n (ops_in s d n) (choices_in s) (rows_in t) tray out (shots_in tray) i l rooms.1)

    rest-kept : RestKept (shots_in tray * w) out filled
    rest-kept =
        let k = keeps d n (ops_in s d n) (choices_in s) (rows_in t) tray in
        let row = shot_row d n (ops_in s d n) (choices_in s) (rows_in t) tray in
        record { len = each-length row w out k (shots_in tray) rooms.1; rest = each-rest row w out k (shots_in tray) rooms.1 }

    -- a verdict that is not 0 is 1
    is_one : (i : ℕ) → ◌≡◌ {A = ℕ} (cond (eqb (verdict i) 0) 0 1) (cond (eqb (verdict i) 1) 1 0)
    unfolding frame_run frame_run_from frame_leaves verdict_of
    is_one i = by (all _ n)
      where
        by : (b : Bool) → ◌≡◌ {A = ℕ} (cond (eqb (cond b 0 1) 0) 0 1) (cond (eqb (cond b 0 1) 1) 1 0)
        by true = refl
        by false = refl

    clean-counted : (k : ℕ) → k ≤ shots_in tray → clean_among d n (ops_in s d n) (choices_in s) (rows_in t) tray k ≡ verdicts_in 0 w filled k
    unfolding clean_among verdicts_in
    clean-counted zero l = refl
    clean-counted (suc k) l = rw (first_byte k l, clean-counted k (omega arith))

    shifted-counted : (k : ℕ) → k ≤ shots_in tray → shifted_among d n (ops_in s d n) (choices_in s) (rows_in t) tray k ≡ verdicts_in 1 w filled k
    unfolding shifted_among verdicts_in
    shifted-counted zero l = refl
    shifted-counted (suc k) l = rw (first_byte k l, shifted-counted k (omega arith), is_one k)

    module _ (i : ℕ) (l : i < shots_in tray) (lent : Buffers) (same : lent.tableau ≡ t) (fitting : frame_buffers_fit n (measurements_in s d n) lent ≡ true) where
      whole : length_fits (length (shot_body tray i)) 5 2048 ≡ true
      whole =
          let h = table_says tray g.table in
          rw (part_length (start_of tray i) (length_at tray i) tray (body-inside tray h i l)) (h.lengths i l)

      accepts : read_book (shot_book d n s tray i) ≡ accepted d n operations (length (shot_body tray i) / 5) choices
      accepts = rw (with_errors s e (shot_body tray i) whole, shot-good d n operations tray g.shots i l)

      back : HasBodies (shot_book d n s tray i) (body_of s 1) (shot_body tray i) (body_of s 3)
      back = bodies-back d n (body_of s 1) (shot_body tray i) (body_of s 3) operations (length (shot_body tray i) / 5) choices accepts

      abbrev ended : FrameEnd
      ended =
          frame_run d n (ops_in s d n) (errors_of (shot_body tray i)) (choices_in s) (state_of (rows_in t) lent.results) lent.shifts lent.frame

      frame-left : frame_book (shot_book d n s tray i) lent ≡ frame_ended (measurements_in s d n) t ended
      unfolding frame_book frame_by_answer
      frame-left = rw (accepts, back.operations-back, back.errors-back, back.choices-back, fitting, same, g.tableau)

      bytes : part (i * w) w filled ≡ ended.verdict ∷ take (2 * measurements_in s d n) ended.results
      bytes =
          shot-at d n (ops_in s d n) (choices_in s) (rows_in t) tray out (shots_in tray) i l rooms.1
          ∙ shot_any d n (omega (arith, dim.low)) (ops_in s d n) (named_in means.lists) (errors_of (shot_body tray i)) (choices_in s) (rows_in t) lent.results lent.shifts lent.frame
          (omega (arith, length-drop 2 t, rooms.0)) (room_of n (measurements_in s d n) lent fitting).1.results-room

      shot_runs : ShotRuns d n operations choices s tray i lent filled
      shot_runs =
          record {
            accepts = accepts;
            succeeds = rw frame-left;
            bytes = rw frame-left bytes;
          }

pub shots_are_frame_runs : ShotsAreFrameRuns
shots_are_frame_runs s tray t out d n operations errors choices e ends i l lent same fitting =
    goes_cases s tray t out e (λ left. ShotRuns d n operations choices s tray i lent left.out) (λ g. shot_runs s tray t out e g i l lent same fitting) ends

pub tray-keeps-rest : TrayKeepsRest
tray-keeps-rest s tray t out d n operations errors choices e =
    goes_cases s tray t out e (λ left. RestKept (shots_in tray * (1 + 2 * measurements_in s d n)) out left.out) (λ g. rest-kept s tray t out e g)

pub tray-counts : TrayCounts
tray-counts s tray t out d n operations errors choices e =
    goes_cases s tray t out e
    (λ left.
    (left.place + left.shifted ≡ shots_in tray)
    × (left.place ≡ verdicts_in 0 (1 + 2 * measurements_in s d n) left.out (shots_in tray))
    × (left.shifted ≡ verdicts_in 1 (1 + 2 * measurements_in s d n) left.out (shots_in tray)))
    (λ g.
    let ops = ops_in s d n in
    let all = le_refl (shots_in tray) in (
      counts_are d n ops (choices_in s) (rows_in t) tray (shots_in tray),
      clean-counted s tray t out e g (shots_in tray) all,
      shifted-counted s tray t out e g (shots_in tray) all,
    ))

pub own-errors_unused : OwnErrorsUnused
unfolding tray_book tray_by_answer
own-errors_unused s tray t out d n operations errors choices e =
    let taken = errorless-accepted s d n operations errors choices e in
    rw (taken.accepts, e, taken.same-operations, taken.same-choices)
