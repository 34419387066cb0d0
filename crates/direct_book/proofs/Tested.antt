-- What the tests behind 1 to 9 say of a call. The worked cases are named so that they are checked first.
-- Assumes nothing.
use mathlib.Core.Path.{◌≡◌, refl, ◌∙◌}
use mathlib.Core.Bool.{true, false≢true}
use mathlib.Core.Logic.{◌≢◌}
use mathlib.Core.List.{List, [], ◌∷◌}
use Prim.Native.Nat.{ℕ, ◌*◌}
use lib.Dec.{leb}
use lib.ListN.{length}
use borrow.Author.Tests.{le-leb, leb-true}
use Rattle.modular.specs.Dimension.{among}
use Rattle.search.proofs.Search.{both, met, unless_cases}
use Rattle.saved_tableau.specs.Saved.{tableau_bytes, valid_for}
use Rattle.book_body.specs.Body.{ReaderAnswer, refused, accepted}
use Rattle.book_body.proofs.Sound.{no_refusal}
use Rattle.book.specs.Book.{read_book}
use Rattle.book.specs.Decoded.{measurements_in}
use Rattle.book.proofs.Answers.{read_cases}
use Rattle.direct_book.specs.DirectBook.{DirectLeft, direct_refused, direct_buffers_fit, direct_tested, direct_by}
use Rattle.direct_book.specs.Passes.{Passes}

-- the numbers of these refusals
abbrev pub tests : List ℕ
tests = 1 ∷ 2 ∷ 3 ∷ 4 ∷ 5 ∷ 6 ∷ 7 ∷ 8 ∷ 9 ∷ []

module _ (s t results : List ℕ) where
  -- What holds of each of these refusals, and of what is left where none refuses, holds of the call.
  pub left_cases : (P : DirectLeft → Type 0) (left : (d n : ℕ) → DirectLeft)
      → ((number place : ℕ) → among number tests ≡ true → P (direct_refused number place t results))
      → ((d n operations errors choices : ℕ) → Passes s t results d n operations errors choices → P (left d n))
      → P (direct_by t results left (direct_tested s t results (read_book s)))
  unfolding direct_tested direct_by
  left_cases P left refusal done =
      read_cases (λ x. read_book s ≡ x → Q (direct_tested s t results x))
      (λ _. refusal 1 0 refl)
      (λ _. refusal 2 0 refl)
      (λ _. refusal 3 0 refl)
      (λ k _. refusal 4 k refl)
      (λ k _. refusal 5 k refl)
      (λ k _. refusal 6 k refl)
      (λ k _. refusal 7 k refl)
      (λ d n o e c reads.
      unless_cases Q (direct_buffers_fit n (measurements_in s d n) t results) (λ _. refusal 8 0 refl)
      (λ room.
      unless_cases Q (valid_for d n t) (λ _. refusal 9 0 refl)
      (λ for-book.
      let rooms = both (leb (tableau_bytes n) (length t)) (leb (2 * measurements_in s d n) (length results)) room in
      done d n o e c (record { reads = reads; room = leb-true _ _ rooms.0; results-room = leb-true _ _ rooms.1; for-book = for-book }))))
      s refl
    where
      Q : ReaderAnswer → Type 0
      Q x = P (direct_by t results left x)

  module _ {d n operations errors choices : ℕ} where
    -- where none refuses, all tests have passed
    pub tested-passes : direct_tested s t results (read_book s) ≡ accepted d n operations errors choices → Passes s t results d n operations errors choices
    unfolding direct_tested
    tested-passes = by (read_book s) refl
      where
        no : (number place : ℕ) → refused number place ≢ accepted d n operations errors choices
        no = no_refusal d n operations errors choices

        by : (x : ReaderAnswer) → read_book s ≡ x → direct_tested s t results x ≡ accepted d n operations errors choices
            → Passes s t results d n operations errors choices
        by (refused number place) q e = absurd (no number place e)
        by (accepted d' n' o e' c) q e =
            let a = met (direct_buffers_fit n' (measurements_in s d' n') t results) (no 8 0) e in
            let b = met (valid_for d' n' t) (no 9 0) a.1 in
            let same : (d' ≡ d) × (n' ≡ n) = (let z = b.1 in (cc, cc)) in
            let rooms = both (leb (tableau_bytes n') (length t)) (leb (2 * measurements_in s d' n') (length results)) a.0 in
            record {
              reads = q ∙ b.1;
              room = rw same.1 at (leb-true (tableau_bytes n') (length t) rooms.0);
              results-room = rw (same.0, same.1) at (leb-true (2 * measurements_in s d' n') (length results) rooms.1);
              for-book = rw (same.0, same.1) at b.0;
            }

    -- and what passes them is not refused
    pub passes-tested : Passes s t results d n operations errors choices → direct_tested s t results (read_book s) ≡ accepted d n operations errors choices
    unfolding direct_tested
    passes-tested g =
        rw (g.reads, le-leb (tableau_bytes n) (length t) g.room, le-leb (2 * measurements_in s d n) (length results) g.results-room, g.for-book)

  -- so two calls that leave the same where none refuses leave the same
  pub left-same : (left left' : (d n : ℕ) → DirectLeft)
      → ((d n operations errors choices : ℕ) → Passes s t results d n operations errors choices → left d n ≡ left' d n)
      → direct_by t results left (direct_tested s t results (read_book s)) ≡ direct_by t results left' (direct_tested s t results (read_book s))
  unfolding direct_by
  left-same left left' same = by (direct_tested s t results (read_book s)) refl
    where
      by : (x : ReaderAnswer) → direct_tested s t results (read_book s) ≡ x → direct_by t results left x ≡ direct_by t results left' x
      by (refused number place) e = refl
      by (accepted d n o e c) q = same d n o e c (tested-passes q)

-- a number of one of these refusals is not that of a success
pub no_success : {A : Type 0} (number : ℕ) → among number tests ≡ true → number ≡ 0 → A
no_success number e z = absurd (false≢true (rw z at e))
