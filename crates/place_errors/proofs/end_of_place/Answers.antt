-- The entry at which the loop stops is the first of a later place, or there is none.
use Rattle.std.proofs.Common.{◌≡◌, ◌≢◌, ℕ, ◌*◌, ◌/◌, ◌<◌, ◌≤◌, List, length, ap, arith, below_more}
use Rattle.circuit.specs.Circuit.{err_at}
use Rattle.book_entries.specs.Entry.{word, error_at}
use Rattle.book.specs.Decoded.{errors_of}
use Rattle.book.proofs.Lists.{error-count, error-at}
use Rattle.runs.proofs.Taken.{passing-more, passing-other, passing-last}
use Rattle.place_errors.proofs.end_of_place.Goals as goal

-- the place of entry i
place_at : (es : List ℕ) (i : ℕ) → i < length es / 5 → (err_at (errors_of es) i).place ≡ word es (5 * i)
unfolding error_at
place_at es i l = ap (λ e. e.place) (error-at es i l)

pub returns-then-word-k-clause-reached : goal.returns-then-word-k-clause-reached
returns-then-word-k-clause-reached c =
    let es = c.args.errors.now in
    let in_list : c.loop-i.i < length (errors_of es) = omega (arith, error-count es) in
    let other : (err_at (errors_of es) c.loop-i.i).place ≢ c.args.k = omega (arith, place_at es c.loop-i.i (omega arith)) in
    passing-other c.loop-i.invariant.passing in_list other c.requires.in_order

pub loop-i-preserved : goal.loop-i-preserved
loop-i-preserved c =
    let es = c.args.errors.now in
    let in_list : c.loop-i.i < length (errors_of es) = omega (arith, error-count es) in
    let here : (err_at (errors_of es) c.loop-i.i).place ≡ c.args.k = omega (arith, place_at es c.loop-i.i (omega arith)) in
    record {
      passing = passing-more c.loop-i.invariant.passing in_list here;
      of_place = λ i from below. below_more (λ i. c.args.j ≤ i → (err_at (errors_of es) i).place ≡ c.args.k) _ (λ i h f. c.loop-i.invariant.of_place i f h) (λ f. here) i below from;
    }

pub returns-clause-from : goal.returns-clause-from
returns-clause-from c = omega (arith, error-count c.args.errors.now)

pub returns-clause-reached : goal.returns-clause-reached
returns-clause-reached c =
    let es = c.args.errors.now in
    let all : length es / 5 ≡ c.loop-i.i = omega (arith, error-count es) in
    rw all (passing-last c.loop-i.invariant.passing (omega (arith, error-count es)))
