-- What a look tells of a measurement. The statements are proved in proofs/.
use Rattle.std.specs.Prelude.{◌≡◌, true, cond, ◌≢◌, List, ℕ, ◌*◌, ◌<◌, ◌≤◌, eqb, ltb, length, get_or}
use Rattle.search.specs.Search.{unless}
use Rattle.operation.specs.declared.Operation.TheVariants.{Measure}
use Rattle.circuit.specs.Circuit.{op_at, err_at, measured, chosen}
use Rattle.saved_tableau.specs.Saved.{dimension_in, qudits_in, rows_in, tableau_bytes, valid_for}
use Rattle.book_body.specs.Body.{accepted}
use Rattle.book.specs.Book.{read_book}
use Rattle.book.specs.Decoded.{ops_in, errors_in, choices_in, measurements_in}
use Rattle.measurement.specs.Look.{look}
use Rattle.look_call.specs.LookBytes.{told, look_refused, look_bytes}
use Rattle.runs.specs.Run.{with_result}
use Rattle.runs.specs.Direct.{state_of, direct_operation}
use Rattle.halts.specs.Halt.{Action, reaches, direct_to}
use Rattle.direct_book.specs.GoOn.{go_on_book}
use Rattle.halt_laws.specs.Halting.{calls, not_begun}

-- A measurement of the qudit looked at would be as the look tells, whichever choice and result are its own. Its mark is the second number.
-- If it is certain, its outcome is the third, and no row changes; if it is free, its outcome is the choice, and the third number is 0.
abbrev pub LookTells : Type 0
LookTells = (t : List ℕ) (qudit : ℕ) → (look_bytes t qudit).number ≡ 0
    → (choices : List ℕ) (c j : ℕ) (results : List ℕ)
    → let seen = look_bytes t qudit in
    let after = direct_operation (dimension_in t) (qudits_in t) choices c j (state_of (rows_in t) results) (Measure qudit) in
    (after.results ≡ with_result results j (cond (eqb seen.free 1) (get_or choices c 0) seen.outcome) seen.free)
    × (seen.free ≡ 0 → after.rows ≡ rows_in t)
    × (seen.free ≡ 1 → seen.outcome ≡ 0)

-- After any calls, a look tells of the rows that the run has reached, unless the qudit is not below n.
abbrev pub CallsLook : Type 0
CallsLook = (s : List ℕ) (d n operations errors choices : ℕ) → read_book s ≡ accepted d n operations errors choices
    → (t results : List ℕ) → tableau_bytes n ≤ length t → 2 * measurements_in s d n ≤ length results → valid_for d n t ≡ true
    → (actions : List Action) (qudit : ℕ)
    → let reached = direct_to d n (ops_in s d n) (errors_in s) (choices_in s) 0 (reaches operations 0 actions) (state_of (rows_in t) results) in
    look_bytes (calls s actions (not_begun (measurements_in s d n) t results)).tableau qudit
    ≡ unless (ltb qudit n) (look_refused 13) (told (look d n reached.rows qudit))

-- So the next operation of a halted run, if it measures that qudit and no error is placed before it, gives what the look told.
abbrev pub LookForetells : Type 0
LookForetells = (s : List ℕ) (d n operations errors choices : ℕ) → read_book s ≡ accepted d n operations errors choices
    → (t results : List ℕ) → tableau_bytes n ≤ length t → 2 * measurements_in s d n ≤ length results → valid_for d n t ≡ true
    → (k qudit : ℕ) → k < operations → op_at (ops_in s d n) k ≡ Measure qudit
    → ((i : ℕ) → i < length (errors_in s) → (err_at (errors_in s) i).place ≢ k)
    → let seen = look_bytes t qudit in
    let choice = get_or (choices_in s) (chosen (ops_in s d n) k) 0 in
    (go_on_book s k 1 t results).results
    ≡ with_result results (measured (ops_in s d n) k) (cond (eqb seen.free 1) choice seen.outcome) seen.free
