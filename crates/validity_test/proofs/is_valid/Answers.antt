use Rattle.std.proofs.Common.{sym, ◌∙◌}
use Rattle.validity.specs.Validity.{valid}
use Rattle.validity.proofs.Exactly.{bytes-tableau}
use Rattle.validity_test.proofs.is_valid.Goals as goal

pub returns-then-not-bytes_below : goal.returns-then-not-bytes_below
unfolding valid
returns-then-not-bytes_below c = rw (sym c.bytes_below.ensures ∙ c.if-not-bytes_below.true)

pub rows_valid-requires-clause-rows : goal.rows_valid-requires-clause-rows
rows_valid-requires-clause-rows c =
    rw c.new-m.ensures (bytes-tableau _ _ _ c.requires.3 (sym c.bytes_below.ensures ∙ c.if-not-bytes_below.false))

pub returns-then-bytes-lt700 : goal.returns-then-bytes-lt700
unfolding valid
returns-then-bytes-lt700 c =
    rw (sym c.bytes_below.ensures ∙ c.if-not-bytes_below.false, ← c.new-m.ensures) c.rows_valid.ensures

pub rows_by_columns-requires-clause-rows : goal.rows_by_columns-requires-clause-rows
rows_by_columns-requires-clause-rows c =
    rw c.new-m.ensures (bytes-tableau _ _ _ c.requires.3 (sym c.bytes_below.ensures ∙ c.if-not-bytes_below.false))

pub returns : goal.returns
unfolding valid
returns c =
    rw (sym c.bytes_below.ensures ∙ c.if-not-bytes_below.false, ← c.new-m.ensures) c.rows_by_columns.ensures
