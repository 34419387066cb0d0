-- Of an accepted book: a measured, reset or corrected qudit is one of the n, a choice is below d, and a named measurement is earlier; the book without errors is accepted, and the book
-- with raised choices.
-- Assumes nothing.
use mathlib.Core.Path.{◌≡◌, ◌∙◌, subst}
use mathlib.Core.Bool.{true}
use mathlib.Core.List.{List, []}
use Prim.Native.Nat.{ℕ, ◌<◌}
use native.Mathlib.Nat.{mod-lt}
use native.Mathlib.Omega.{arith}
use lib.ListN.{length, get_or}
use borrow.Author.Tests.{ltb-true}
use Rattle.operation.specs.declared.Operation.{Operation}
use Rattle.operation.specs.declared.WeylError.{WeylError}
use Rattle.operation.specs.Operation.{allowed, named}
use Rattle.circuit.specs.Circuit.{op_at, measures, resets, corrects, kind, measured, choice_tally, chosen, Accepted}
use Rattle.runs.specs.Raised.{raised}
use Rattle.runs.proofs.Results.{is_measure, is-reset, is_correct, chosen-before}
use Rattle.runs.proofs.Shifts.{raised-length, raised_at}

module _ {d n : ℕ} {ops : List Operation} {errors : List WeylError} {choices : List ℕ} (ac : Accepted d n ops errors choices) where
  pub qudit_in : (k q : ℕ) → k < length ops → kind (op_at ops k) ≡ measures q → q < n
  qudit_in k q l e = ltb-true q n (subst (λ (op : Operation). allowed d n op ≡ true) (is_measure (op_at ops k) q e) (ac.operations k l))

  pub reset_in : (k q : ℕ) → k < length ops → kind (op_at ops k) ≡ resets q → q < n
  reset_in k q l e = ltb-true q n (subst (λ (op : Operation). allowed d n op ≡ true) (is-reset (op_at ops k) q e) (ac.operations k l))

  module _ (k t m : ℕ) (l : k < length ops) (e : kind (op_at ops k) ≡ corrects t m) where
    pub target_in : t < n
    target_in = ltb-true t n (subst (λ (op : Operation). allowed d n op ≡ true) (is_correct (op_at ops k) t m e) (ac.operations k l))

    pub named_in : m < measured ops k
    named_in = ltb-true m (measured ops k) (subst (λ (op : Operation). named (measured ops k) op ≡ true) (is_correct (op_at ops k) t m e) (ac.names k l))

  module _ (k : ℕ) (l : k < length ops) (e : choice_tally (op_at ops k) ≡ 1) where
    pub has_choice : chosen ops k < length choices
    has_choice = omega (arith, ac.one_each, chosen-before ops k (length ops) l e)

    pub choice_in : get_or choices (chosen ops k) 0 < d
    choice_in = ac.below (chosen ops k) has_choice

  pub without_errors : Accepted d n ops [] choices
  without_errors =
      record {
        operations = ac.operations;
        names = ac.names;
        errors-in-order = record { each = λ j l. absurd (omega arith); in_order = λ i j l k. absurd (omega arith) };
        places = λ j l. absurd (omega arith);
        one_each = ac.one_each;
        below = ac.below;
      }

  pub with_raised : 0 < d → (F : List ℕ) → Accepted d n ops errors (raised d n ops errors F choices)
  with_raised low F =
      let same = raised-length d n ops errors F choices in
      record {
        operations = ac.operations;
        names = ac.names;
        errors-in-order = ac.errors-in-order;
        places = ac.places;
        one_each = same ∙ ac.one_each;
        below = λ j l. rw (raised_at d n ops errors F choices j (omega arith)) (mod-lt _ low);
      }
