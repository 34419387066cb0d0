-- A body of gates and measurements alone has nothing bad, and takes a choice for each measurement.
-- Assumes nothing.
use Rattle.std.proofs.Common.{None}
use mathlib.Core.Path.{◌≡◌, refl, ap, ◌∙◌}
use mathlib.Core.Bool.{Bool, true, or-false}
use mathlib.Core.List.{List}
use Prim.Native.Nat.{ℕ, zero, suc, ◌+◌, ◌*◌, ◌/◌, ◌<◌, ◌≤◌}
use native.Mathlib.Omega.{arith}
use lib.ListN.{length, get_or}
use borrow.Author.Tests.{ne_eqb}
use Rattle.operation.specs.Operation.{named}
use Rattle.search.proofs.Search.{all-at, none_fails}
use Rattle.book_entries.specs.Entry.{good_if, coded}
use Rattle.book_entries.specs.Fits.{plain_at}
use Rattle.book_entries.proofs.Fitting.{by_fits, plain_fits_lem}
use Rattle.book_body.specs.Body.{measurements, choice_takers, is_good, good_operation, all_plain, bad_operation}

-- the first seven codes name nothing
names-none : (b0 b1 b2 b3 earlier : ℕ) → b0 ≤ 6 → named earlier (coded b0 b1 b2 b3) ≡ true
unfolding coded
names-none zero b1 b2 b3 earlier l = refl
names-none (suc zero) b1 b2 b3 earlier l = refl
names-none (suc (suc zero)) b1 b2 b3 earlier l = refl
names-none (suc (suc (suc zero))) b1 b2 b3 earlier l = refl
names-none (suc (suc (suc (suc zero)))) b1 b2 b3 earlier l = refl
names-none (suc (suc (suc (suc (suc zero))))) b1 b2 b3 earlier l = refl
names-none (suc (suc (suc (suc (suc (suc zero)))))) b1 b2 b3 earlier l = refl
names-none (suc (suc (suc (suc (suc (suc (suc b))))))) b1 b2 b3 earlier l = absurd (omega arith)

module _ (d n : ℕ) (ops : List ℕ) where
  plain-good : (k : ℕ) → plain_at d n ops k ≡ true → good_operation d n ops k ≡ true
  plain-good k h =
      let b0 = get_or ops (4 * k) 0 in
      let b1 = get_or ops (4 * k + 1) 0 in
      let b2 = get_or ops (4 * k + 2) 0 in
      let b3 = get_or ops (4 * k + 3) 0 in
      let fit = plain_fits_lem d n b1 b2 b3 b0 h in
      ap (is_good (measurements ops k)) (by_fits d n b1 b2 b3 b0 ∙ ap (λ (t : Bool). good_if t (coded b0 b1 b2 b3)) fit.0)
      ∙ names-none b0 b1 b2 b3 (measurements ops k) fit.1

  pub nothing_bad : all_plain d n ops ≡ true → bad_operation d n ops ≡ None
  unfolding bad_operation
  nothing_bad h = none_fails (good_operation d n ops) (length ops / 4) (λ k l. plain-good k (all-at (plain_at d n ops) (length ops / 4) h k l))

  -- no code is 7
  taken-to : (m : ℕ) → ((k : ℕ) → k < m → plain_at d n ops k ≡ true) → choice_takers ops m ≡ measurements ops m
  unfolding measurements choice_takers
  taken-to zero h = refl
  taken-to (suc m) h =
      let b0 = get_or ops (4 * m) 0 in
      let low = (plain_fits_lem d n _ _ _ b0 (h m (omega arith))).1 in
      rw (taken-to m (λ k l. h k (omega arith)), ne_eqb b0 7 (λ e. omega (arith, e, low)), or-false)

  pub one_each : all_plain d n ops ≡ true → choice_takers ops (length ops / 4) ≡ measurements ops (length ops / 4)
  one_each h = taken-to (length ops / 4) (all-at (plain_at d n ops) (length ops / 4) h)
