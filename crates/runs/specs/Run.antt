-- What both runs share. They go through the operations in order, each step on the rows that the one before it left.
use Rattle.std.specs.Prelude.{List, ℕ, zero, suc, ◌+◌, ◌*◌, ◌%◌, set, get_or}

-- `count` steps, the first of them step `from`
unfoldable pub steps_from : {A : Type 0} → (ℕ → A → A) → ℕ → A → ℕ → A
steps_from step from a zero = a
steps_from step from a (suc count) = step (from + count) (steps_from step from a count)

-- Results: 2 bytes per measurement: outcome, then 0 certain or 1 free. Those of measurement j are written.
unfoldable pub with_result : List ℕ → ℕ → ℕ → ℕ → List ℕ
with_result results j outcome mark = set (set results (2 * j) outcome) (2 * j + 1) mark

-- the result of measurement m, taken modulo d
abbrev pub result_of : (d : ℕ) (results : List ℕ) (m : ℕ) → ℕ
result_of d results m = get_or results (2 * m) 0 % d
