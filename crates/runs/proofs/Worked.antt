-- Worked runs, for d = 3. Rows are the X powers, the Z powers and the phase.
-- Assumes nothing.
use mathlib.Core.Path.{◌≡◌, refl}
use mathlib.Core.List.{List, [], ◌∷◌}
use Prim.Native.Nat.{ℕ}
use Rattle.modular.specs.Dimension.{inverse, power_of}
use Rattle.row.specs.Row.{tab, row_of, dot, product, power, pairing}
use Rattle.row.specs.Generators.{z_with}
use Rattle.row.specs.Fill.{filled}
use Rattle.row_laws.specs.Scalar.{scalar}
use Rattle.search.specs.Search.{all, first_not}
use Rattle.tableau.specs.Tableau.{part, put, each_row}
use Rattle.operation.specs.declared.Operation.{Operation}
use Rattle.operation.specs.declared.Operation.TheVariants.{Fourier, Sum, Measure, Reset, Correct}
use Rattle.operation.specs.declared.WeylError.{WeylError}
use Rattle.operation.specs.Gate.{gate_powers, gate_phase, gate_row}
use Rattle.operation.specs.Error.{error_row, error_frame}
use Rattle.circuit.specs.Circuit.{measured, chosen}
use Rattle.measurement.specs.Look.{pivot_of, combination, weighted, look}
use Rattle.measurement.specs.Collapse.{collapse_row, collapse}
use Rattle.runs.specs.Run.{steps_from, with_result, result_of}
use Rattle.runs.specs.Direct.{errors_on_rows, direct_look, reset_rows, direct_kind, direct_errors, direct_step, direct_run}
use Rattle.runs.specs.Frame.{FrameEnd, no_frame, errors_on_frame, shift_row, verdict_of, frame_look, frame_kind, frame_errors, frame_step, frame_steps, frame_leaves, frame_run_from, frame_run}
use Rattle.runs.specs.Raised.{carry_by, frame_before, carried, raise_by, choice_raises, raised}
use Rattle.runs.specs.Carry.{with_shifts, clean_carried}

-- The frame run leaves `end`, and so does the clean run with the carried frame; with the raised choices, the direct run leaves the same
-- rows and results. Nothing else is in the buffers.
record Both (n : ℕ) (ops : List Operation) (errors : List WeylError) (choices second rows results : List ℕ) (end : FrameEnd) : Type 0 where
  framed : frame_run 3 n ops errors choices (record { rows = rows; results = results }) [] [] ≡ end
  carries : frame_leaves 3 n ops errors choices [] [] (clean_carried 3 n ops errors (no_frame n) (direct_run 3 n ops [] choices (record { rows = rows; results = results }))) ≡ end
  raises : raised 3 n ops errors (no_frame n) choices ≡ second
  after-errors : direct_run 3 n ops errors second (record { rows = rows; results = results }) ≡ record { rows = end.rows; results = end.results }

-- Fourier 0, SUM 0 1, then both qudits are measured; X on qudit 1 before operation 2; choices 2 and 0. The first result is free,
-- the second certain.
abbrev Book : Type 0
Book = Both 2 (Fourier 0 1 ∷ Sum 0 1 1 ∷ Measure 0 ∷ Measure 1 ∷ []) (record { place = 2; qudit = 1; p = 1; s = 0 } ∷ []) (2 ∷ 0 ∷ []) (2 ∷ 1 ∷ [])
    (1 ∷ 0 ∷ 0 ∷ 0 ∷ 0
    ∷ 0 ∷ 1 ∷ 0 ∷ 0 ∷ 0
    ∷ 0 ∷ 0 ∷ 1 ∷ 0 ∷ 0
    ∷ 0 ∷ 0 ∷ 0 ∷ 1 ∷ 0 ∷ [])
    (9 ∷ 9 ∷ 9 ∷ 9 ∷ [])
    (record {
      rows =
          1 ∷ 1 ∷ 0 ∷ 0 ∷ 0
          ∷ 0 ∷ 1 ∷ 0 ∷ 0 ∷ 0
          ∷ 0 ∷ 0 ∷ 1 ∷ 0 ∷ 1
          ∷ 0 ∷ 0 ∷ 2 ∷ 1 ∷ 2 ∷ [];
      results = 2 ∷ 1 ∷ 0 ∷ 0 ∷ [];
      shifts = 0 ∷ 0 ∷ 0 ∷ 2 ∷ [];
      frame = 0 ∷ 1 ∷ 0 ∷ 0 ∷ [];
      verdict = 1;
    })

-- One qudit: X before the only operation, Z after it.
abbrev Ends : Type 0
Ends = Both 1 (Fourier 0 1 ∷ []) (record { place = 0; qudit = 0; p = 1; s = 0 } ∷ record { place = 1; qudit = 0; p = 0; s = 1 } ∷ []) [] []
    (1 ∷ 0 ∷ 0 ∷ 0 ∷ 1 ∷ 0 ∷ [])
    []
    (record { rows = 0 ∷ 1 ∷ 0 ∷ 2 ∷ 0 ∷ 1 ∷ []; results = []; shifts = 0 ∷ 1 ∷ []; frame = 0 ∷ 2 ∷ []; verdict = 1 })

-- A certain measurement takes its choice, so the free one takes the second; X just before it raises that.
abbrev Free : Type 0
Free = Both 1 (Measure 0 ∷ Fourier 0 1 ∷ Measure 0 ∷ []) (record { place = 2; qudit = 0; p = 1; s = 0 } ∷ []) (1 ∷ 2 ∷ []) (1 ∷ 0 ∷ [])
    (1 ∷ 0 ∷ 0 ∷ 0 ∷ 1 ∷ 0 ∷ [])
    (9 ∷ 9 ∷ 9 ∷ 9 ∷ [])
    (record { rows = 1 ∷ 0 ∷ 0 ∷ 0 ∷ 1 ∷ 0 ∷ []; results = 0 ∷ 0 ∷ 0 ∷ 1 ∷ []; shifts = 0 ∷ 2 ∷ []; frame = 1 ∷ 0 ∷ []; verdict = 1 })

-- Z on level 0 shifts the destabilizer alone: the state stays, and the verdict is clean.
abbrev Level0 : Type 0
Level0 = Both 1 [] (record { place = 0; qudit = 0; p = 0; s = 1 } ∷ []) [] []
    (1 ∷ 0 ∷ 0 ∷ 0 ∷ 1 ∷ 0 ∷ [])
    []
    (record { rows = 1 ∷ 0 ∷ 1 ∷ 0 ∷ 1 ∷ 0 ∷ []; results = []; shifts = 1 ∷ 0 ∷ []; frame = 0 ∷ 1 ∷ []; verdict = 0 })

-- Two qudits, one of them corrected by a result, the other reset, both free. X on qudit 0 shifts the first result by 1, so that the
-- correction takes 1 out of the frame; the reset's choice is raised by the X power that the frame then has on qudit 0.
abbrev Corrected : Type 0
Corrected = Both 2 (Fourier 0 1 ∷ Sum 0 1 1 ∷ Measure 0 ∷ Correct 1 0 ∷ Fourier 0 1 ∷ Reset 0 ∷ Measure 1 ∷ Fourier 0 1 ∷ [])
    (record { place = 2; qudit = 0; p = 1; s = 0 }
    ∷ record { place = 5; qudit = 0; p = 1; s = 1 }
    ∷ record { place = 6; qudit = 1; p = 0; s = 2 }
    ∷ record { place = 8; qudit = 1; p = 1; s = 0 }
    ∷ [])
    (2 ∷ 1 ∷ 0 ∷ [])
    (0 ∷ 2 ∷ 2 ∷ [])
    (1 ∷ 0 ∷ 0 ∷ 0 ∷ 0
    ∷ 0 ∷ 1 ∷ 0 ∷ 0 ∷ 0
    ∷ 0 ∷ 0 ∷ 1 ∷ 0 ∷ 0
    ∷ 0 ∷ 0 ∷ 0 ∷ 1 ∷ 0 ∷ [])
    (9 ∷ 9 ∷ 9 ∷ 9 ∷ [])
    (record {
      rows =
          0 ∷ 0 ∷ 1 ∷ 0 ∷ 1
          ∷ 0 ∷ 1 ∷ 0 ∷ 0 ∷ 2
          ∷ 2 ∷ 0 ∷ 0 ∷ 0 ∷ 0
          ∷ 0 ∷ 0 ∷ 0 ∷ 1 ∷ 0 ∷ [];
      results = 0 ∷ 1 ∷ 2 ∷ 0 ∷ [];
      shifts = 2 ∷ 2 ∷ 0 ∷ 0 ∷ [];
      frame = 1 ∷ 0 ∷ 0 ∷ 2 ∷ [];
      verdict = 0;
    })

-- A certain measurement, a correction by its result, and a certain reset, which takes a choice and gives no result, with an error before
-- each: bytes past the results are kept.
abbrev Cleared : Type 0
Cleared = Both 1 (Measure 0 ∷ Correct 0 0 ∷ Reset 0 ∷ [])
    (record { place = 0; qudit = 0; p = 2; s = 0 } ∷ record { place = 1; qudit = 0; p = 1; s = 0 } ∷ record { place = 2; qudit = 0; p = 1; s = 1 } ∷ [])
    (1 ∷ 2 ∷ [])
    (0 ∷ 1 ∷ [])
    (1 ∷ 0 ∷ 0 ∷ 0 ∷ 1 ∷ 0 ∷ [])
    (9 ∷ 9 ∷ 9 ∷ 9 ∷ [])
    (record { rows = 1 ∷ 0 ∷ 1 ∷ 0 ∷ 1 ∷ 0 ∷ []; results = 2 ∷ 0 ∷ 9 ∷ 9 ∷ []; shifts = 1 ∷ 0 ∷ []; frame = 0 ∷ 1 ∷ []; verdict = 0 })

-- After a reset a result has another number than its choice. Two corrections by two results, each named by its number: the second result
-- goes to qudit 0, and the first to qudit 1.
abbrev Named : Type 0
Named = Both 2 (Fourier 0 1 ∷ Reset 0 ∷ Fourier 0 1 ∷ Measure 0 ∷ Fourier 1 1 ∷ Measure 1 ∷ Correct 0 1 ∷ Correct 1 0 ∷ [])
    (record { place = 1; qudit = 0; p = 1; s = 1 }
    ∷ record { place = 3; qudit = 0; p = 1; s = 0 }
    ∷ record { place = 5; qudit = 1; p = 2; s = 1 }
    ∷ record { place = 7; qudit = 0; p = 0; s = 1 }
    ∷ [])
    (0 ∷ 0 ∷ 2 ∷ [])
    (1 ∷ 0 ∷ 1 ∷ [])
    (1 ∷ 0 ∷ 0 ∷ 0 ∷ 0
    ∷ 0 ∷ 1 ∷ 0 ∷ 0 ∷ 0
    ∷ 0 ∷ 0 ∷ 1 ∷ 0 ∷ 0
    ∷ 0 ∷ 0 ∷ 0 ∷ 1 ∷ 0 ∷ [])
    (9 ∷ 9 ∷ 9 ∷ 9 ∷ [])
    (record {
      rows =
          1 ∷ 0 ∷ 0 ∷ 0 ∷ 1
          ∷ 0 ∷ 1 ∷ 0 ∷ 0 ∷ 1
          ∷ 0 ∷ 0 ∷ 1 ∷ 0 ∷ 1
          ∷ 0 ∷ 0 ∷ 0 ∷ 1 ∷ 2 ∷ [];
      results = 0 ∷ 1 ∷ 1 ∷ 1 ∷ [];
      shifts = 1 ∷ 1 ∷ 2 ∷ 1 ∷ [];
      frame = 1 ∷ 2 ∷ 1 ∷ 1 ∷ [];
      verdict = 1;
    })

-- A result that is read back is taken modulo d.
read_back : result_of 3 (0 ∷ 0 ∷ 7 ∷ 1 ∷ []) 1 ≡ 1
read_back = refl

worked : Book × Ends × Free × Level0 × Corrected × Cleared × Named
unfolding steps_from with_result measured chosen frame_run frame_run_from frame_step frame_kind frame_look frame_errors frame_steps frame_leaves verdict_of shift_row errors_on_frame error_frame raised choice_raises raise_by carried carry_by frame_before with_shifts filled direct_run direct_step direct_kind direct_look reset_rows direct_errors errors_on_rows error_row look pivot_of first_not combination weighted all collapse collapse_row each_row part put product power pairing scalar z_with row_of tab dot gate_row gate_powers gate_phase inverse power_of
worked = (
  record { framed = refl; carries = refl; raises = refl; after-errors = refl },
  record { framed = refl; carries = refl; raises = refl; after-errors = refl },
  record { framed = refl; carries = refl; raises = refl; after-errors = refl },
  record { framed = refl; carries = refl; raises = refl; after-errors = refl },
  record { framed = refl; carries = refl; raises = refl; after-errors = refl },
  record { framed = refl; carries = refl; raises = refl; after-errors = refl },
  record { framed = refl; carries = refl; raises = refl; after-errors = refl },
)
