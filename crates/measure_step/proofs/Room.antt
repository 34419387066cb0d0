-- Two bytes of results for each measurement: the test by halves, which cannot wrap.
-- Assumes nothing.
use mathlib.Core.Path.{◌≡◌, sym, ◌∙◌}
use Prim.Native.Nat.{ℕ, ◌*◌, ◌/◌, ◌≤◌}
use native.Mathlib.Decide.{dec_le}
use native.Mathlib.Omega.{arith}
use lib.Dec.{leb}
use borrow.Author.Tests.{le-leb, lt-leb}

pub halves : (a b : ℕ) → leb a (b / 2) ≡ leb (2 * a) b
halves a b = by (dec_le a (b / 2))
  where
    by : Dec (a ≤ b / 2) → leb a (b / 2) ≡ leb (2 * a) b
    by (yes l) = le-leb a (b / 2) l ∙ sym (le-leb (2 * a) b (omega arith))
    by (no l) = lt-leb a (b / 2) (omega arith) ∙ sym (lt-leb (2 * a) b (omega arith))
