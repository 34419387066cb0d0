-- What holds of each refusal of a tray, and of what is returned where nothing refuses, holds of what is left.
-- Assumes nothing.
use Rattle.std.proofs.Common.{Option, Some, None}
use mathlib.Core.Path.{◌≡◌, refl}
use mathlib.Core.Bool.{true}
use mathlib.Core.List.{List}
use Prim.Native.Nat.{ℕ}
use Rattle.search.proofs.Search.{unless_cases}
use Rattle.saved_tableau.specs.Saved.{rows_in, valid_for}
use Rattle.book_body.specs.Body.{accepted}
use Rattle.book.specs.Book.{body_of}
use Rattle.book.specs.Decoded.{operations_of, measurements_in}
use Rattle.book.proofs.Answers.{read_cases}
use Rattle.tray.specs.Tray.{shots_in, table_fits, bad_shot}
use Rattle.shots.specs.Shots.{TrayLeft, tray_refused, tray_ended, refuse6, tray_buffers_fit, tray_by_answer, tray_book}

-- 11, the tray's 6, 8 and 9 let it through
pub record Goes (d n operations : ℕ) (s tray t out : List ℕ) : Type 0 where
  pub table : table_fits tray ≡ true
  pub shots : bad_shot d n operations tray ≡ None
  pub room : tray_buffers_fit n (measurements_in s d n) (shots_in tray) t out ≡ true
  pub tableau : valid_for d n t ≡ true

module _ (s tray t out : List ℕ) (P : TrayLeft → Type 0) where
  abbrev OnRefusal : ℕ → ℕ → Type 0
  OnRefusal number place = P (tray_refused number place out)

  abbrev OnSuccess : ℕ → ℕ → ℕ → Type 0
  OnSuccess d n operations = Goes d n operations s tray t out → P (tray_ended d n (operations_of d n (body_of s 1)) (body_of s 3) tray (rows_in t) out)

  six_cases : {rest : TrayLeft} (p : Option ℕ) → ((k : ℕ) → OnRefusal 6 k) → (p ≡ None → P rest) → P (refuse6 p out rest)
  six_cases (Some k) six goes = six k
  six_cases None six goes = goes refl

  -- of a book that is accepted
  pub accepted_cases : (d n operations errors choices : ℕ) → OnRefusal 11 0 → ((k : ℕ) → OnRefusal 6 k) → OnRefusal 8 0 → OnRefusal 9 0
      → OnSuccess d n operations → P (tray_by_answer s tray t out (accepted d n operations errors choices))
  unfolding tray_by_answer
  accepted_cases d n operations errors choices eleven six eight nine goes =
      unless_cases P (table_fits tray) (λ _. eleven)
      (λ a.
      six_cases (bad_shot d n operations tray) six
      (λ b.
      unless_cases P (tray_buffers_fit n (measurements_in s d n) (shots_in tray) t out) (λ _. eight)
      (λ c. unless_cases P (valid_for d n t) (λ _. nine) (λ e. goes (record { table = a; shots = b; room = c; tableau = e })))))

  -- of any book
  pub tray_cases : OnRefusal 1 0 → OnRefusal 2 0 → OnRefusal 3 0 → ((k : ℕ) → OnRefusal 4 k) → ((k : ℕ) → OnRefusal 5 k)
      → ((k : ℕ) → OnRefusal 6 k) → ((k : ℕ) → OnRefusal 7 k) → OnRefusal 8 0 → OnRefusal 9 0 → OnRefusal 11 0
      → ((d n operations : ℕ) → OnSuccess d n operations) → P (tray_book s tray t out)
  unfolding tray_book tray_by_answer
  tray_cases one two three four five six seven eight nine eleven goes =
      read_cases (λ x. P (tray_by_answer s tray t out x)) one two three four five six seven
      (λ d n o e c. accepted_cases d n o e c eleven six eight nine (goes d n o)) s
