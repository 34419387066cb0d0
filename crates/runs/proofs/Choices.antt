-- Raised choices: antt computes them.
-- Assumes nothing.
use mathlib.Core.Path.{◌≡◌, refl}
use mathlib.Core.List.{[], ◌∷◌}
use Rattle.row.specs.Row.{tab}
use Rattle.operation.specs.declared.Operation.TheVariants.{Measure}
use Rattle.operation.specs.Error.{error_frame}
use Rattle.runs.specs.Frame.{no_frame, errors_on_frame}
use Rattle.runs.specs.Raised.{carry_by, frame_before, carried, raise_by, choice_raises, raised}

-- X Z² strikes between two measurements: the second choice alone is raised, and by the X power.
second-raised : raised 3 1 (Measure 0 ∷ Measure 0 ∷ []) (record { place = 1; qudit = 0; p = 1; s = 2 } ∷ []) (no_frame 1) (0 ∷ 0 ∷ []) ≡ 0 ∷ 1 ∷ []
unfolding raised choice_raises raise_by carried carry_by frame_before errors_on_frame error_frame tab
second-raised = refl
