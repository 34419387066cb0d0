-- A measurement that notes its result, and a reset, both from what is measured.
-- Assumes nothing.
use mathlib.Core.Path.{◌≡◌, refl}
use mathlib.Core.List.{List}
use Prim.Native.Nat.{ℕ}
use Rattle.operation.specs.Error.{error_rows, minus_x}
use Rattle.measurement.specs.declared.Look.{Look}
use Rattle.measurement.specs.declared.Look.TheVariants.{Free, Certain}
use Rattle.runs.specs.Run.{with_result}
use Rattle.runs.specs.Direct.{direct_look, reset_rows}
use Rattle.measure_step.specs.Measured.{rows_measured, outcome_of, mark_of}

module _ (d n : ℕ) (choices : List ℕ) (c q : ℕ) where
  pub noted : (j : ℕ) (t results : List ℕ) (seen : Look)
      → direct_look d n choices c j q (record { rows = t; results = results }) seen
      ≡ record { rows = rows_measured d n choices c q t seen; results = with_result results j (outcome_of d n choices c seen) (mark_of seen) }
  unfolding direct_look rows_measured outcome_of mark_of
  noted j t results (Free k) = refl
  noted j t results (Certain outcome) = refl

  pub cleared : (t : List ℕ) (seen : Look)
      → reset_rows d n choices c q t seen ≡ error_rows d n (minus_x d q (outcome_of d n choices c seen)) (rows_measured d n choices c q t seen)
  unfolding reset_rows rows_measured outcome_of
  cleared t (Free k) = refl
  cleared t (Certain outcome) = refl
