-- Each refusal has a listed number and leaves every buffer unchanged.
-- Assumes nothing.
use Rattle.std.proofs.Common.{Option, Some, None}
use mathlib.Core.Path.{◌≡◌, refl}
use mathlib.Core.Logic.{◌≢◌}
use mathlib.Core.Bool.{Bool, true, false, ◌||◌, false≢true}
use mathlib.Core.List.{List, [], ◌∷◌, ◌++◌}
use Prim.Native.Nat.{ℕ, ◌<◌}
use native.Mathlib.Omega.{arith}
use lib.Dec.{eqb, leb, ltb}
use lib.ListN.{length}
use borrow.Author.Tests.{ne_eqb}
use Rattle.modular.specs.Dimension.{among}
use Rattle.search.specs.Search.{unless}
use Rattle.search.proofs.Search.{unless_cases}
use Rattle.saved_tableau.specs.Saved.{dimension_in, qudits_in, rows_in, self_valid, valid_for}
use Rattle.saved_tableau.specs.Layer.{layer_number, layer_leaves}
use Rattle.saved_tableau.specs.Test.{test_number}
use Rattle.saved_tableau_laws.proofs.Shape.{shape_cases}
use Rattle.book_body.specs.Body.{ReaderAnswer, refused, accepted}
use Rattle.book.specs.Book.{read_book}
use Rattle.book.proofs.Answers.{read_cases}
use Rattle.book.specs.Decoded.{ops_in, measurements_in}
use Rattle.written_book.specs.Writer.{WriteLeft, overwritten, write_book}
use Rattle.written_book.proofs.Writer.{write_cases}
use Rattle.measurement.specs.declared.Look.{Look}
use Rattle.measurement.specs.declared.Look.TheVariants.{Free, Certain}
use Rattle.measurement.specs.Look.{look}
use Rattle.look_call.specs.declared.LookAnswer.{LookAnswer}
use Rattle.look_call.specs.LookBytes.{told, look_bytes}
use Rattle.halts.specs.Halt.{finished}
use Rattle.direct_book.specs.DirectBook.{DirectLeft, direct_ended, direct_book}
use Rattle.direct_book.specs.GoOn.{go_on_reached, go_on_book}
use Rattle.direct_book.proofs.Tested.{tests, left_cases}
use Rattle.frame_run.specs.FrameBook.{Buffers, FrameLeft, frame_buffers_fit, frame_by_answer, frame_book}
use Rattle.shots.specs.Shots.{tray_book}
use Rattle.shots.proofs.Refusals.{tray_cases}
use Rattle.mirror_book.specs.MirrorBook.{mirror_of, mirror_bytes, first_measurement, refuse12, mirror_by_answer, mirror_book}
use Rattle.book_laws.specs.Refusals.{run_numbers, tray_numbers, writer_numbers, mirror_numbers, go_on_numbers, look_numbers, NumbersListed, WriterNamesBody, LayerUnchanged, WriterUnchanged, DirectUnchanged, GoOnUnchanged, LookUntold, FrameUnchanged, TrayUnchanged, MirrorUnchanged}

layer-listed : (d n : ℕ) (t : List ℕ) → among (layer_number d n t) (0 ∷ 2 ∷ 3 ∷ 8 ∷ []) ≡ true
unfolding layer_number
layer-listed d n t = shape_cases d n t (λ number. among number (0 ∷ 2 ∷ 3 ∷ 8 ∷ []) ≡ true) 0 refl refl refl refl

test_cases : (P : ℕ → Type 0) (t : List ℕ) → P 0 → P 2 → P 3 → P 8 → P 9 → P (test_number t)
unfolding test_number
test_cases P t zero two three eight nine =
    unless_cases P (leb 2 (length t)) (λ e. eight)
    (λ e. shape_cases (dimension_in t) (qudits_in t) t P _ two three eight (unless_cases P (self_valid t) (λ e. nine) (λ e. zero)))

test-listed : (t : List ℕ) → among (test_number t) (0 ∷ 2 ∷ 3 ∷ 8 ∷ 9 ∷ []) ≡ true
test-listed t = test_cases (λ number. among number (0 ∷ 2 ∷ 3 ∷ 8 ∷ 9 ∷ []) ≡ true) t refl refl refl refl refl

look-listed : (t : List ℕ) (qudit : ℕ) → among (look_bytes t qudit).number look_numbers ≡ true
unfolding look_bytes
look-listed t qudit =
    unless_cases P (eqb (test_number t) 0) (λ e. test_cases (λ number. among number look_numbers ≡ true) t refl refl refl refl refl)
    (λ e. unless_cases P (ltb qudit (qudits_in t)) (λ e. refl) (λ e. tells (look (dimension_in t) (qudits_in t) (rows_in t) qudit)))
  where
    P : LookAnswer → Type 0
    P a = among a.number look_numbers ≡ true

    tells : (x : Look) → P (told x)
    tells (Free k) = refl
    tells (Certain outcome) = refl

writer-listed : (d n : ℕ) (ops errors choices out : List ℕ) → among (write_book d n ops errors choices out).number writer_numbers ≡ true
writer-listed d n ops errors choices out =
    write_cases d n ops errors choices out (λ left. among left.number writer_numbers ≡ true)
    refl refl (λ k l. refl) (λ k. refl) (λ k. refl) (λ k. refl) refl (λ h. refl)

-- a number of 1 to 9, in a list that has these and more
or_more : (a : Bool) {b c : Bool} → (b ≡ true → c ≡ true) → a || b ≡ true → a || c ≡ true
or_more true f e = refl
or_more false f e = f e

among-more : (number : ℕ) (ps more : List ℕ) → among number ps ≡ true → among number (ps ++ more) ≡ true
among-more number [] more e = absurd (false≢true e)
among-more number (p ∷ ps) more e = or_more (eqb number p) (λ h. among-more number ps more h) e

run_listed : (number : ℕ) (more : List ℕ) → among number tests ≡ true → among number (0 ∷ (tests ++ more)) ≡ true
run_listed number more e = or_right (eqb number 0) (among-more number tests more e)
  where
    or_right : (a : Bool) {b : Bool} → b ≡ true → a || b ≡ true
    or_right true e = refl
    or_right false e = e

direct-listed : (s t results : List ℕ) → among (direct_book s t results).number run_numbers ≡ true
unfolding direct_book
direct-listed s t results =
    left_cases s t results (λ left. among left.number run_numbers ≡ true) (direct_ended s t results)
    (λ number place e. run_listed number [] e)
    (λ d n o e c g. refl)

go-on-listed : (s : List ℕ) (from count : ℕ) (t results : List ℕ) → among (go_on_book s from count t results).number go_on_numbers ≡ true
unfolding go_on_book
go-on-listed s from count t results =
    left_cases s t results P (go_on_reached s from count t results)
    (λ number place e. run_listed number (13 ∷ []) e)
    (λ d n o e c g. unless_cases P (leb from (finished (length (ops_in s d n)))) (λ _. refl) (λ _. refl))
  where
    P : DirectLeft → Type 0
    P left = among left.number go_on_numbers ≡ true

frame-listed : (s : List ℕ) (lent : Buffers) → among (frame_book s lent).number run_numbers ≡ true
unfolding frame_book frame_by_answer
frame-listed s lent =
    read_cases (λ x. P (frame_by_answer s lent x)) refl refl refl (λ k. refl) (λ k. refl) (λ k. refl) (λ k. refl)
    (λ d n o e c.
    unless_cases P (frame_buffers_fit n (measurements_in s d n) lent) (λ e. refl) (λ e. unless_cases P (valid_for d n lent.tableau) (λ e. refl) (λ e. refl)))
    s
  where
    P : FrameLeft → Type 0
    P l = among l.number run_numbers ≡ true

tray-listed : (s tray t out : List ℕ) → among (tray_book s tray t out).number tray_numbers ≡ true
tray-listed s tray t out =
    tray_cases s tray t out (λ left. among left.number tray_numbers ≡ true)
    refl refl refl (λ k. refl) (λ k. refl) (λ k. refl) (λ k. refl) refl refl refl (λ d n o h. refl)

-- What holds of the refusals 12 and 8, and of the book that is written where nothing is measured, holds of what the mirror of an accepted
-- book leaves.
pub accepted-mirrored : (s out : List ℕ) (P : WriteLeft → Type 0) (d n operations errors choices : ℕ)
    → ((k : ℕ) → P (record { number = 12; place = k; out = out }))
    → P (record { number = 8; place = 0; out = out })
    → (first_measurement (ops_in s d n) ≡ None → P (record { number = 0; place = mirror_bytes operations; out = overwritten (mirror_of d n s) out }))
    → P (mirror_by_answer s out (accepted d n operations errors choices))
unfolding mirror_by_answer
accepted-mirrored s out P d n operations errors choices twelve eight written = go (first_measurement (ops_in s d n)) refl
  where
    go : (p : Option ℕ) → first_measurement (ops_in s d n) ≡ p
        → P (refuse12 p out
        (unless (leb (mirror_bytes operations) (length out)) (record { number = 8; place = 0; out = out })
        (record { number = 0; place = mirror_bytes operations; out = overwritten (mirror_of d n s) out })))
    go (Some k) none = twelve k
    go None none = unless_cases P (leb (mirror_bytes operations) (length out)) (λ _. eight) (λ _. written none)

mirror-listed : (s out : List ℕ) → among (mirror_book s out).number mirror_numbers ≡ true
unfolding mirror_book mirror_by_answer
mirror-listed s out =
    read_cases (λ x. P (mirror_by_answer s out x)) refl refl refl (λ k. refl) (λ k. refl) (λ k. refl) (λ k. refl)
    (λ d n o e c. accepted-mirrored s out P d n o e c (λ k. refl) refl (λ none. refl))
    s
  where
    P : WriteLeft → Type 0
    P left = among left.number mirror_numbers ≡ true

pub numbers-listed : NumbersListed
numbers-listed =
    record {
      layer = layer-listed;
      test = test-listed;
      writer = writer-listed;
      direct = direct-listed;
      go_on = go-on-listed;
      look = look-listed;
      frame = frame-listed;
      tray = tray-listed;
      mirror = mirror-listed;
    }

pub layer_unchanged : LayerUnchanged
unfolding layer_leaves
layer_unchanged d n t h = rw (ne_eqb (layer_number d n t) 0 h)

pub writer-names-body : WriterNamesBody
writer-names-body d n ops errors choices out =
    write_cases d n ops errors choices out (λ left. left.number ≡ 4 → left.place < 3)
    (λ e. omega arith)
    (λ e. omega arith)
    (λ k l e. l)
    (λ k e. absurd (omega arith))
    (λ k e. absurd (omega arith))
    (λ k e. absurd (omega arith))
    (λ e. omega arith)
    (λ h e. absurd (omega arith))

pub writer_unchanged : WriterUnchanged
writer_unchanged d n ops errors choices out =
    write_cases d n ops errors choices out (λ left. left.number ≢ 0 → left.out ≡ out)
    (λ h. refl) (λ h. refl) (λ k l h. refl) (λ k h. refl) (λ k h. refl) (λ k h. refl) (λ h. refl) (λ e h. absurd (h refl))

-- nothing is written, and the third number is 0
abbrev Unwritten : (t results : List ℕ) → DirectLeft → Type 0
Unwritten t results left = left.number ≢ 0 → (left.tableau ≡ t) × (left.results ≡ results) × (left.next ≡ 0)

pub direct_unchanged : DirectUnchanged
unfolding direct_book
direct_unchanged s t results =
    left_cases s t results (Unwritten t results) (direct_ended s t results)
    (λ number place e h. (refl, refl, refl))
    (λ d n o e c g h. absurd (h refl))

pub go-on_unchanged : GoOnUnchanged
unfolding go_on_book
go-on_unchanged s from count t results =
    left_cases s t results (Unwritten t results) (go_on_reached s from count t results)
    (λ number place e h. (refl, refl, refl))
    (λ d n o e c g.
    unless_cases (Unwritten t results) (leb from (finished (length (ops_in s d n)))) (λ _ h. (refl, refl, refl)) (λ _ h. absurd (h refl)))

pub look_untold : LookUntold
unfolding look_bytes
look_untold t qudit =
    unless_cases P (eqb (test_number t) 0) (λ e h. (refl, refl))
    (λ e. unless_cases P (ltb qudit (qudits_in t)) (λ e h. (refl, refl)) (λ e. tells (look (dimension_in t) (qudits_in t) (rows_in t) qudit)))
  where
    P : LookAnswer → Type 0
    P a = a.number ≢ 0 → (a.free ≡ 0) × (a.outcome ≡ 0)

    tells : (x : Look) → P (told x)
    tells (Free k) h = absurd (h refl)
    tells (Certain outcome) h = absurd (h refl)

pub frame_unchanged : FrameUnchanged
unfolding frame_book frame_by_answer
frame_unchanged s lent = go (read_book s)
  where
    P : FrameLeft → Type 0
    P l = l.number ≢ 0 → (l.left ≡ lent) × (l.verdict ≡ 0)

    go : (x : ReaderAnswer) → P (frame_by_answer s lent x)
    go (refused number place) = λ h. (refl, refl)
    go (accepted d n operations errors choices) =
        unless_cases P (frame_buffers_fit n (measurements_in s d n) lent) (λ e h. (refl, refl))
        (λ e. unless_cases P (valid_for d n lent.tableau) (λ e h. (refl, refl)) (λ e h. absurd (h refl)))

pub tray_unchanged : TrayUnchanged
tray_unchanged s tray t out =
    tray_cases s tray t out (λ left. left.number ≢ 0 → (left.out ≡ out) × (left.shifted ≡ 0))
    (λ h. (refl, refl))
    (λ h. (refl, refl))
    (λ h. (refl, refl))
    (λ k h. (refl, refl))
    (λ k h. (refl, refl))
    (λ k h. (refl, refl))
    (λ k h. (refl, refl))
    (λ h. (refl, refl))
    (λ h. (refl, refl))
    (λ h. (refl, refl))
    (λ d n o e h. absurd (h refl))

pub mirror_unchanged : MirrorUnchanged
unfolding mirror_book mirror_by_answer
mirror_unchanged s out = go (read_book s)
  where
    P : WriteLeft → Type 0
    P left = left.number ≢ 0 → left.out ≡ out

    go : (x : ReaderAnswer) → P (mirror_by_answer s out x)
    go (refused number place) = λ h. refl
    go (accepted d n operations errors choices) =
        accepted-mirrored s out P d n operations errors choices (λ k h. refl) (λ h. refl) (λ none h. absurd (h refl))
