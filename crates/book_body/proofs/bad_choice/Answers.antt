-- The smaller number where the counts differ; else what `position` says.
use Rattle.std.proofs.Common.{◌≡◌, ◌<◌, ℕ, true, false, Some, min, ◌∙◌, length, ap, rules, arith, eq-eqb}
use Rattle.std.specs.Option.{MatchOption}
use Rattle.std.proofs.lemmas.Bool.Decides.{nat_tests}
use borrow.Author.Tests.{ne_eqb}
use Rattle.search.proofs.Search.{first-is}
use Rattle.book_body.specs.Body.{smaller, good_choice, bad_choice}
use Rattle.book_body.proofs.bad_choice.Goals as goal

smaller-is : (a b : ℕ) → min a b ≡ smaller a b
smaller-is a b = grind (arith, nat_tests)

pub returns-then-count-taken : goal.returns-then-count-taken
unfolding bad_choice
returns-then-count-taken c = rw (ne_eqb _ _ c.if-count-taken.true) (ap Some (c.min.ensures ∙ smaller-is _ _))

pub returns : goal.returns
unfolding bad_choice
returns c =
    let cs = c.args.choices.now in
    let e : MatchOption c.position.result ((j : ℕ) → j < length cs → good_choice c.args.d cs j ≡ true) (λ k. (k < length cs) × (good_choice c.args.d cs k ≡ false) × ((j : ℕ) → j < k → good_choice c.args.d cs j ≡ true)) = search rules in
    rw (eq-eqb _ _ c.if-count-taken.false) (first-is (good_choice c.args.d cs) (length cs) _ e)
