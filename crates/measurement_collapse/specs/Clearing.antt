-- What a free measurement does to the rows, by its struct.
use Rattle.std.specs.Prelude.{Bool, List, ℕ}
use Rattle.measurement_collapse.specs.declared.Measurement.{Measurement}
use Rattle.measurement_collapse.specs.FreeMeasurement.{pivot_in, cleared}
use Rattle.measurement_collapse.specs.Changing.{is_changing}

abbrev pub pivot_of : Measurement → List ℕ
pivot_of c = pivot_in c.n c.powers.now

abbrev pub cleared_by : Measurement → List ℕ → List ℕ
cleared_by c v = cleared c.m.d c.n c.q (pivot_of c) v

abbrev pub changed_by : Measurement → List ℕ → ℕ → Bool
changed_by c t i = is_changing c.n c.q c.k t i
