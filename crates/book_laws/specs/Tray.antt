-- A tray of shots, and the books that its shots stand for. The statements are proved in proofs/.
use Rattle.std.specs.Prelude.{◌≡◌, true, cond, List, ◌∷◌, ℕ, zero, suc, ◌+◌, ◌*◌, ◌/◌, ◌<◌, eqb, length, get_or, take, drop}
use Rattle.tableau.specs.Tableau.{part}
use Rattle.book_body.specs.Body.{accepted}
use Rattle.book.specs.Book.{read_book, body_of}
use Rattle.book.specs.Decoded.{measurements_in}
use Rattle.written_book.specs.Written.{book_of}
use Rattle.written_book.specs.Errorless.{errorless}
use Rattle.frame_run.specs.FrameBook.{Buffers, frame_buffers_fit, frame_book}
use Rattle.tray.specs.Tray.{shots_in, shot_body}
use Rattle.shots.specs.Shots.{tray_book}

-- The book of shot i: what the writer makes of the book's operations and choices, and the shot's own errors.
abbrev pub shot_book : ℕ → ℕ → List ℕ → List ℕ → ℕ → List ℕ
shot_book d n s tray i = book_of d n (body_of s 1) (shot_body tray i) (body_of s 3)

-- It is accepted, its frame run ends without a refusal, and the bytes of shot i are that run's verdict and its results.
pub record ShotRuns (d n operations choices : ℕ) (s tray : List ℕ) (i : ℕ) (lent : Buffers) (out : List ℕ) : Type 0 where
  pub accepts : read_book (shot_book d n s tray i) ≡ accepted d n operations (length (shot_body tray i) / 5) choices
  pub succeeds : (frame_book (shot_book d n s tray i) lent).number ≡ 0
  pub bytes : part (i * (1 + 2 * measurements_in s d n)) (1 + 2 * measurements_in s d n) out
      ≡ (frame_book (shot_book d n s tray i) lent).verdict ∷ take (2 * measurements_in s d n) (frame_book (shot_book d n s tray i) lent).left.results

-- For each shot of a tray that is not refused, from the same tableau, and whatever the other lent buffers held.
abbrev pub ShotsAreFrameRuns : Type 0
ShotsAreFrameRuns = (s tray t out : List ℕ) (d n operations errors choices : ℕ) → read_book s ≡ accepted d n operations errors choices
    → (tray_book s tray t out).number ≡ 0
    → (i : ℕ) → i < shots_in tray
    → (lent : Buffers) → lent.tableau ≡ t → frame_buffers_fit n (measurements_in s d n) lent ≡ true
    → ShotRuns d n operations choices s tray i lent (tray_book s tray t out).out

-- The bytes past the shots are kept.
pub record RestKept (used : ℕ) (out out' : List ℕ) : Type 0 where
  pub len : length out' ≡ length out
  pub rest : drop used out' ≡ drop used out

abbrev pub TrayKeepsRest : Type 0
TrayKeepsRest = (s tray t out : List ℕ) (d n operations errors choices : ℕ) → read_book s ≡ accepted d n operations errors choices
    → (tray_book s tray t out).number ≡ 0
    → RestKept (shots_in tray * (1 + 2 * measurements_in s d n)) out (tray_book s tray t out).out

-- how many of the first k shots, of w bytes each, have this verdict byte
unfoldable pub verdicts_in : (verdict w : ℕ) → List ℕ → ℕ → ℕ
verdicts_in verdict w out zero = 0
verdicts_in verdict w out (suc k) = verdicts_in verdict w out k + cond (eqb (get_or out (k * w) 0) verdict) 1 0

-- Each shot is counted once: by its verdict byte it is clean or shifted.
abbrev pub TrayCounts : Type 0
TrayCounts = (s tray t out : List ℕ) (d n operations errors choices : ℕ) → read_book s ≡ accepted d n operations errors choices
    → (tray_book s tray t out).number ≡ 0
    → ((tray_book s tray t out).place + (tray_book s tray t out).shifted ≡ shots_in tray)
    × ((tray_book s tray t out).place ≡ verdicts_in 0 (1 + 2 * measurements_in s d n) (tray_book s tray t out).out (shots_in tray))
    × ((tray_book s tray t out).shifted ≡ verdicts_in 1 (1 + 2 * measurements_in s d n) (tray_book s tray t out).out (shots_in tray))

-- The book's own errors are checked and not used: with them taken out the tray returns and fills the same.
abbrev pub OwnErrorsUnused : Type 0
OwnErrorsUnused = (s tray t out : List ℕ) (d n operations errors choices : ℕ) → read_book s ≡ accepted d n operations errors choices
    → tray_book (errorless d n s) tray t out ≡ tray_book s tray t out
