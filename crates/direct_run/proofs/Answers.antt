-- Rows come back behind the first two bytes of a tableau, with the numbers of a success.
-- Assumes nothing.
use mathlib.Core.Path.{◌≡◌, sym, ap}
use mathlib.Core.List.{List}
use Prim.Native.Nat.{ℕ, ◌-◌}
use lib.ListN.{length, take-append-drop}
use borrow.Rule.Slice.PartMut.{put_mid}
use Rattle.operation.specs.declared.Operation.{Operation}
use Rattle.operation.specs.declared.WeylError.{WeylError}
use Rattle.saved_tableau.specs.Saved.{rows_in}
use Rattle.saved_tableau_laws.proofs.Rows.{rows-put}
use Rattle.runs.specs.Direct.{State, state_of}
use Rattle.halts.specs.Halt.{direct_to}
use Rattle.halts.proofs.Goes.{stays}
use Rattle.direct_book.specs.DirectBook.{DirectLeft, behind}

-- the rows come back behind the same two bytes
pub tableau-ends : (t : List ℕ) {rows results : List ℕ} {end : State} → state_of rows results ≡ end
    → state_of (put_mid 2 (length t - 2) t rows) results ≡ behind t end
tableau-ends t {rows} e = rw (← e, rows-put t rows)

-- from a number to itself nothing is done
pub nothing_done : (d n : ℕ) (ops : List Operation) (errors : List WeylError) (choices : List ℕ) (from next : ℕ) (t results : List ℕ) → from ≡ next
    → state_of t results ≡ behind t (direct_to d n ops errors choices from next (state_of (rows_in t) results))
nothing_done d n ops errors choices from next t results e =
    rw (e, stays d n ops errors choices (state_of (rows_in t) results) next) (ap (λ (u : List ℕ). state_of u results) (sym (take-append-drop 2 t)))

pub with_numbers : {measurements m next : ℕ} {t results : List ℕ} {end : State} → m ≡ measurements → state_of t results ≡ end
    → ◌≡◌ {A = DirectLeft} (record { number = 0; place = m; next = next; tableau = t; results = results })
    (record { number = 0; place = measurements; next = next; tableau = end.rows; results = end.results })
with_numbers {measurements} {m} {next} e s =
    rw e (ap (λ (x : State). record { number = 0; place = measurements; next = next; tableau = x.rows; results = x.results }) s)
