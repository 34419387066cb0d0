-- What holds of each refusal that may come, and of what is accepted, holds of the reader's answer. The worked cases are named so that
-- they are checked first.
-- Assumes nothing.
use Rattle.std.proofs.Common.{Option, Some, None}
use mathlib.Core.List.{List}
use Prim.Native.Nat.{ℕ, ◌/◌}
use lib.ListN.{length}
use Rattle.book_body.specs.Body.{bad_operation, bad_error, bad_choice, ReaderAnswer, refused, accepted, refuse_at, read_bodies}

module _ (P : ReaderAnswer → Type 0) where
  pub at_cases : (number : ℕ) (p : Option ℕ) {rest : ReaderAnswer} → ((k : ℕ) → P (refused number k)) → P rest → P (refuse_at number p rest)
  at_cases number (Some k) h r = h k
  at_cases number None h r = r

  pub bodies_cases : (d n : ℕ) (ops errors choices : List ℕ) → ((k : ℕ) → P (refused 5 k)) → ((k : ℕ) → P (refused 6 k)) → ((k : ℕ) → P (refused 7 k))
      → P (accepted d n (length ops / 4) (length errors / 5) (length choices)) → P (read_bodies d n ops errors choices)
  unfolding read_bodies
  bodies_cases d n ops errors choices five six seven good =
      at_cases 5 (bad_operation d n ops) five
      (at_cases 6 (bad_error d n (length ops / 4) errors) six (at_cases 7 (bad_choice d _ choices) seven good))
