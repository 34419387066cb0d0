-- What the sheet of a whole book says. The statements are proved in proofs/.
use Rattle.std.specs.Prelude.{◌≡◌, true, ◌≢◌, List, [], ◌∷◌, ℕ, zero, suc, ◌+◌, ◌*◌, ◌%◌, ◌<◌, ◌≤◌, length, get_or, drop}
use Rattle.modular.specs.Dimension.{among}
use Rattle.operation.specs.declared.WeylError.{WeylError}
use Rattle.circuit.specs.Circuit.{err_at, measured}
use Rattle.book_body.specs.Body.{accepted}
use Rattle.book.specs.Book.{read_book, body_of}
use Rattle.book.specs.Decoded.{ops_in, errors_in, measurements_in}
use Rattle.written_book.specs.Errorless.{errorless}
use Rattle.direct_book.specs.DirectBook.{DirectLeft, direct_book}
use Rattle.frame_run.specs.FrameBook.{Buffers, FrameLeft, frame_book}
use Rattle.book_laws.specs.Lent.{Lent}
use Rattle.sheet.specs.Weights.{sheet_bytes}
use Rattle.sheet.specs.SheetBook.{SheetLeft, sheet_book}
use Rattle.sheet_laws.specs.Lists.{SamePlaces}

-- The same operations, and errors at the same places on the same qudits: other powers may be put into those entries, and other choices.
pub record SameCircuit (s s' : List ℕ) : Type 0 where
  pub operations : body_of s 1 ≡ body_of s' 1
  pub entries : SamePlaces (errors_in s) (errors_in s')

-- The sheet must not depend on choices or on the powers now in the book: nor does any number that is returned.
abbrev pub SheetOfCircuit : Type 0
SheetOfCircuit = (s s' : List ℕ) (d n o e c o' e' c' : ℕ) → read_book s ≡ accepted d n o e c → read_book s' ≡ accepted d n o' e' c'
    → SameCircuit s s' → (sheet : List ℕ) → sheet_book s sheet ≡ sheet_book s' sheet

-- The sum of powers times weights, for result j: the weights of entry i stand at byte 2(iM + j) and the next.
module _ (sheet : List ℕ) (measurements : ℕ) (errors : List WeylError) (j : ℕ) where
  abbrev pub p_weight : ℕ → ℕ
  p_weight i = get_or sheet (2 * (i * measurements + j)) 0

  abbrev pub s_weight : ℕ → ℕ
  s_weight i = get_or sheet (2 * (i * measurements + j) + 1) 0

  unfoldable pub sum_by_sheet : ℕ → ℕ
  sum_by_sheet zero = 0
  sum_by_sheet (suc i) = sum_by_sheet i + ((err_at errors i).p * p_weight i + (err_at errors i).s * s_weight i)

-- Both runs end without a refusal; each result of the frame run is the clean one plus a sum, modulo d, with the same mark.
pub record RunsWeighed (d measurements : ℕ) (total : ℕ → ℕ) (clean : DirectLeft) (framed : FrameLeft) : Type 0 where
  pub clean-ends : clean.number ≡ 0
  pub frame-ends : framed.number ≡ 0
  pub outcomes : (j : ℕ) → j < measurements → get_or framed.left.results (2 * j) 0 ≡ (get_or clean.results (2 * j) 0 + total j) % d
  pub marks : (j : ℕ) → j < measurements → get_or framed.left.results (2 * j + 1) 0 ≡ get_or clean.results (2 * j + 1) 0

-- For any powers put into those entries, the shift of a result is the sum of powers times weights, modulo d, and so equals the frame
-- run's: s is the book whose sheet was made, s' any book over the same circuit, run without its errors and with them.
abbrev pub SheetWeighs : Type 0
SheetWeighs = (s s' : List ℕ) (d n o e c o' e' c' : ℕ) → read_book s ≡ accepted d n o e c → read_book s' ≡ accepted d n o' e' c'
    → SameCircuit s s'
    → (sheet : List ℕ) → sheet_bytes (ops_in s d n) (errors_in s) ≤ length sheet
    → (t results : List ℕ) (lent : Buffers) → Lent d n (measurements_in s' d n) t results lent
    → RunsWeighed d (measurements_in s' d n)
    (λ j. sum_by_sheet (sheet_book s sheet).sheet (measurements_in s d n) (errors_in s') j (length (errors_in s')))
    (direct_book (errorless d n s') t results) (frame_book s' lent)

-- Success returns 0 and the number of measurements; a measurement before the entry's place has 0 and 0; bytes past the sheet are kept.
pub record SheetFilled (s : List ℕ) (d n : ℕ) (sheet : List ℕ) (left : SheetLeft) : Type 0 where
  pub number : left.number ≡ 0
  pub place : left.place ≡ measurements_in s d n
  pub before : (i j : ℕ) → i < length (errors_in s) → j < measured (ops_in s d n) (err_at (errors_in s) i).place
      → (p_weight left.sheet (measurements_in s d n) (errors_in s) j i ≡ 0) × (s_weight left.sheet (measurements_in s d n) (errors_in s) j i ≡ 0)
  pub kept : drop (sheet_bytes (ops_in s d n) (errors_in s)) left.sheet ≡ drop (sheet_bytes (ops_in s d n) (errors_in s)) sheet
  pub long : length left.sheet ≡ length sheet

abbrev pub SheetFills : Type 0
SheetFills = (s : List ℕ) (d n o e c : ℕ) → read_book s ≡ accepted d n o e c
    → (sheet : List ℕ) → sheet_bytes (ops_in s d n) (errors_in s) ≤ length sheet → SheetFilled s d n sheet (sheet_book s sheet)

-- 1 to 7, then 8; a refusal leaves the buffer.
abbrev pub sheet_numbers : List ℕ
sheet_numbers = 0 ∷ 1 ∷ 2 ∷ 3 ∷ 4 ∷ 5 ∷ 6 ∷ 7 ∷ 8 ∷ []

abbrev pub SheetListed : Type 0
SheetListed = (s sheet : List ℕ) → among (sheet_book s sheet).number sheet_numbers ≡ true

abbrev pub SheetUnchanged : Type 0
SheetUnchanged = (s sheet : List ℕ) → (sheet_book s sheet).number ≢ 0 → (sheet_book s sheet).sheet ≡ sheet
