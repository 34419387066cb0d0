-- An entry that is an operation is good if it names an earlier measurement.
use Rattle.std.proofs.Common.{◌≡◌, ◌+◌, ◌*◌, List, ℕ, Bool, false, eqb, get_or, Option, Some, None, refl, sym, ap, ◌∙◌, add-one, arith, le_antisymm}
use Rattle.std.specs.Int.{from_bool}
use Rattle.operation.specs.declared.Operation.{Operation}
use Rattle.operation.specs.Operation.{named}
use Rattle.book_entries.specs.Entry.{operation_at}
use Rattle.search.specs.Search.{first_not}
use Rattle.search.proofs.Search.{none_yet, found}
use Rattle.book_body.specs.Body.{measurements, is_good, good_operation, bad_operation}
use Rattle.book_body.proofs.Count.{at_most_one, as_number}
use Rattle.book_body.proofs.bad_among.Goals as goal

module _ (d n : ℕ) (ops : List ℕ) (k : ℕ) {read : Option Operation} (is : read ≡ operation_at d n ops k) where
  good-is : read ≡ None → good_operation d n ops k ≡ false
  good-is none = ap (is_good (measurements ops k)) (sym is ∙ none)

  good-if : {op : Operation} {earlier : ℕ} {b : Bool} → read ≡ Some op → earlier ≡ measurements ops k → b ≡ named earlier op → good_operation d n ops k ≡ b
  good-if {op} some m h = ap (is_good (measurements ops k)) (sym is ∙ some) ∙ ap (λ (z : ℕ). named z op) (sym m) ∙ sym h

counted : (ops : List ℕ) (k : ℕ) {earlier more : ℕ} → earlier ≡ measurements ops k → more ≡ from_bool (eqb (get_or ops (4 * k) 0) 6)
    → earlier + more ≡ measurements ops (k + 1)
unfolding measurements
counted ops k m h = rw (add-one k, m, h) (ap (λ (z : ℕ). measurements ops k + z) (as_number _))

pub loop-k-init : goal.loop-k-init
unfolding first_not measurements
loop-k-init c = record { few = omega arith; earlier = refl; good = refl }

pub returns-in_default : goal.returns-in_default
unfolding bad_operation
returns-in_default c =
    found _ _ _ c.loop-k-test.true c.loop-k.invariant.good (good-is _ _ c.args.ops.now _ c.operation_at.ensures c.in_default.is)

pub returns-then-not-names_earlier : goal.returns-then-not-names_earlier
unfolding bad_operation
returns-then-not-names_earlier c =
    found _ _ _ c.loop-k-test.true c.loop-k.invariant.good
    (good-if _ _ c.args.ops.now _ c.operation_at.ensures c.in-Some.is c.loop-k.invariant.earlier c.names_earlier.ensures ∙ c.if-not-names_earlier.true)

pub loop-k-preserved : goal.loop-k-preserved
unfolding measurements
loop-k-preserved c = record {
  few = omega (arith, at_most_one (eqb (get_or c.args.ops.now (4 * c.loop-k.k) 0) 6));
  earlier = counted c.args.ops.now _ c.loop-k.invariant.earlier c.from-earlier.ensures;
  good = none_yet _ _ c.loop-k.invariant.good
      (good-if _ _ c.args.ops.now _ c.operation_at.ensures c.in-Some.is c.loop-k.invariant.earlier c.names_earlier.ensures ∙ c.if-not-names_earlier.false);
}

pub returns : goal.returns
unfolding bad_operation
returns c = sym c.loop-k.invariant.good ∙ ap (first_not _) (le_antisymm (omega arith) c.loop-k-test.false)
