-- What the layer and either run leave, if they do not refuse, passes the tableau test: the zero tableau is valid, and a run keeps
-- validity and begins on a valid tableau.
-- Assumes nothing.
use mathlib.Core.Path.{◌≡◌, refl}
use mathlib.Core.Bool.{true}
use mathlib.Core.List.{List}
use Prim.Native.Nat.{ℕ, ◌≤◌}
use native.Mathlib.Omega.{arith}
use lib.Dec.{leb}
use lib.ListN.{length, length-drop}
use borrow.Author.Tests.{leb-true, eq-eqb}
use Rattle.modular.specs.Dimension.{Dimension, listed}
use Rattle.modular.proofs.Listed.{dimension}
use Rattle.search.proofs.Search.{both, unless_cases}
use Rattle.tableau.specs.Tableau.{sized}
use Rattle.validity.specs.Validity.{Valid}
use Rattle.validity_laws.proofs.Keeping.{zero-valid}
use Rattle.saved_tableau.specs.Saved.{rows_in, with_rows, tableau_bytes, names, valid_for}
use Rattle.saved_tableau.specs.Layer.{layer_number, layer_leaves}
use Rattle.saved_tableau_laws.proofs.Rows.{opened, same_bytes}
use Rattle.saved_tableau_laws.proofs.Exactly.{saved_passes, is-named, valid-rows}
use Rattle.saved_tableau_laws.proofs.Shape.{shaped}
use Rattle.book_body.specs.Body.{accepted}
use Rattle.book.specs.Book.{read_book}
use Rattle.book.specs.Decoded.{Means, ops_in, errors_in, choices_in, measurements_in}
use Rattle.book.proofs.Answers.{read_cases}
use Rattle.book.proofs.Meaning.{accepted-means}
use Rattle.runs.specs.Direct.{state_of, direct_run}
use Rattle.runs.specs.Frame.{no_frame, frame_run}
use Rattle.run_laws.proofs.Sound.{run_keeps-valid}
use Rattle.run_laws.proofs.Clean.{frame-keeps-valid}
use Rattle.halts.specs.Halt.{finished, direct_from}
use Rattle.halts.proofs.Kept.{going-on-keeps-valid}
use Rattle.direct_book.specs.DirectBook.{DirectLeft, direct_ended, direct_book}
use Rattle.direct_book.specs.GoOn.{go_on_reached, go_on_book}
use Rattle.direct_book.proofs.Tested.{left_cases, no_success}
use Rattle.frame_run.specs.FrameBook.{FrameLeft, frame_buffers_fit, frame_by_answer, frame_book}
use Rattle.book_laws.specs.LeavesValid.{StillPasses, LayerLeavesValid, DirectLeavesValid, GoOnLeavesValid, FrameLeavesValid}

pub layer-leaves-valid : LayerLeavesValid
unfolding layer_number layer_leaves
layer-leaves-valid d n t e =
    let k = shaped d n t 0 e in
    rw (eq-eqb (layer_number d n t) 0 e)
    (saved_passes d n _ k.dimension k.qudits-sized (zero-valid d n (dimension d k.dimension) (rows_in t) (omega (arith, length-drop 2 t, k.room))))

-- valid rows behind the two bytes of a tableau that a run takes
left-valid : {d n : ℕ} (t rows : List ℕ) → listed d ≡ true → sized n ≡ true → tableau_bytes n ≤ length t → valid_for d n t ≡ true → Valid d n rows
    → StillPasses t (with_rows t rows)
unfolding valid_for
left-valid {d} {n} t rows h k room e v =
    let two : 2 ≤ length t = omega (arith, room) in
    let q = is-named t (both (names d n t) _ e).0 in
    (rw (opened t rows two, q.0, q.1) (saved_passes d n rows h k v), same_bytes t rows two)

module _ (s : List ℕ) {d n operations errors choices : ℕ} (e : read_book s ≡ accepted d n operations errors choices) where
  m : Means s d n operations errors choices
  m = accepted-means s d n operations errors choices e

  dim : Dimension d
  dim = dimension d m.dimension-listed

  module _ (t results : List ℕ) (room : tableau_bytes n ≤ length t) (v : valid_for d n t ≡ true) where
    abbrev direct-rows : List ℕ
    direct-rows = (direct_run d n (ops_in s d n) (errors_in s) (choices_in s) (state_of (rows_in t) results)).rows

    direct-passes : StillPasses t (with_rows t direct-rows)
    direct-passes =
        left-valid t direct-rows m.dimension-listed m.qudits-sized room v
        (run_keeps-valid d n dim (ops_in s d n) (errors_in s) (choices_in s) m.lists (state_of (rows_in t) results) (valid-rows t room v))

    going-passes : (from count : ℕ)
        → StillPasses t (with_rows t (direct_from d n (ops_in s d n) (errors_in s) (choices_in s) from count (state_of (rows_in t) results)).rows)
    going-passes from count =
        left-valid t _ m.dimension-listed m.qudits-sized room v
        (going-on-keeps-valid d n dim (ops_in s d n) (errors_in s) (choices_in s) m.lists from count (state_of (rows_in t) results) (valid-rows t room v))

    module _ (shifts frame : List ℕ) where
      abbrev frame-rows : List ℕ
      frame-rows = (frame_run d n (ops_in s d n) (errors_in s) (choices_in s) (state_of (rows_in t) results) shifts frame).rows

      frame-passes : StillPasses t (with_rows t frame-rows)
      unfolding frame_run
      frame-passes =
          left-valid t frame-rows m.dimension-listed m.qudits-sized room v
          (frame-keeps-valid d n dim (ops_in s d n) (errors_in s) (choices_in s) (no_frame n) m.lists (state_of (rows_in t) results) (valid-rows t room v)
          shifts
          frame)

pub direct-leaves-valid : DirectLeavesValid
unfolding direct_book
direct-leaves-valid s t results =
    left_cases s t results (λ left. left.number ≡ 0 → StillPasses t left.tableau) (direct_ended s t results)
    (λ number place e h. no_success number e h)
    (λ d n o e c g h. direct-passes s g.reads t results g.room g.for-book)

pub go-on-leaves-valid : GoOnLeavesValid
unfolding go_on_book
go-on-leaves-valid s from count t results =
    left_cases s t results P (go_on_reached s from count t results)
    (λ number place e h. no_success number e h)
    (λ d n o e c g.
    unless_cases P (leb from (finished (length (ops_in s d n)))) (λ _ h. absurd (omega arith))
    (λ _ h. going-passes s g.reads t results g.room g.for-book from count))
  where
    P : DirectLeft → Type 0
    P left = left.number ≡ 0 → StillPasses t left.tableau

pub frame-leaves-valid : FrameLeavesValid
unfolding frame_book frame_by_answer frame_buffers_fit
frame-leaves-valid s lent =
    read_cases (λ x. read_book s ≡ x → P (frame_by_answer s lent x))
    (λ e h. absurd (omega arith))
    (λ e h. absurd (omega arith))
    (λ e h. absurd (omega arith))
    (λ k e h. absurd (omega arith))
    (λ k e h. absurd (omega arith))
    (λ k e h. absurd (omega arith))
    (λ k e h. absurd (omega arith))
    (λ d n o c m e.
    unless_cases P (frame_buffers_fit n (measurements_in s d n) lent) (λ r h. absurd (omega arith))
    (λ r.
    unless_cases P (valid_for d n lent.tableau) (λ v h. absurd (omega arith))
    (λ v h.
    frame-passes s e lent.tableau lent.results (leb-true _ _ (both (leb (tableau_bytes n) (length lent.tableau)) _ r).0) v lent.shifts
    lent.frame)))
    s refl
  where
    P : FrameLeft → Type 0
    P l = l.number ≡ 0 → StillPasses lent.tableau l.left.tableau
