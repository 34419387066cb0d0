-- The clean run, as the blocks take it.
-- Assumes nothing.
use mathlib.Core.Path.{◌≡◌, refl, sym, ap, ap₂, subst, ◌∙◌}
use mathlib.Core.List.{List, []}
use Prim.Native.Nat.{ℕ, zero, suc, ◌+◌, ◌*◌, ◌≤◌, ◌<◌}
use native.Mathlib.Nat.{le_refl}
use native.Mathlib.Omega.{arith}
use lib.ListN.{length, get_or, take, replicate}
use Rattle.modular.proofs.Listed.{dimension}
use Rattle.tableau.specs.Tableau.{part}
use Rattle.tableau.proofs.Parts.{part_length, part_at}
use Rattle.operation.specs.declared.Operation.{Operation}
use Rattle.circuit.specs.Circuit.{op_at, Kind, gate, measures, resets, corrects, kind, tally_kind, choice_kind, measured, measurement_count, chosen, Accepted}
use Rattle.validity.specs.Validity.{Valid}
use Rattle.validity.proofs.Exactly.{valid-tableau}
use Rattle.measurement.specs.declared.Look.{Look}
use Rattle.measurement.specs.declared.Look.TheVariants.{Free, Certain}
use Rattle.measurement.specs.Look.{look}
use Rattle.measure_step.proofs.Fits.{look-fits}
use Rattle.book.specs.Decoded.{operations_of}
use Rattle.runs.specs.Run.{steps_from}
use Rattle.runs.specs.Direct.{State, direct_look, direct_kind, direct_errors, direct_step, direct_run}
use Rattle.runs.proofs.Results.{measured-before, measured-chosen, direct-results}
use Rattle.run_laws.proofs.Books.{choice_in}
use Rattle.run_laws.proofs.Results.{ResultsRelated, related_none, related_more}
use Rattle.run_laws.proofs.Window.{Window, window_of, valid-window}
use Rattle.run_laws.proofs.Sound.{run_keeps-valid}
use Rattle.block.specs.Clean.{CleanShots}
use Rattle.lane_shots.specs.LaneShots.{blank, shifted_shots}
use Rattle.lane_shots.proofs.Starting.{blank-length}
use Rattle.blocks.specs.Blocks.{shot_errors, TrayErrors, ShotsFilled}
use Rattle.shots_run.specs.Ready.{Ready}
use Rattle.shots_run.specs.CopyRun.{copy_run}

abbrev Low : ℕ → ℕ → ℕ → ℕ → Type 0
Low d j x y = x < d

-- every outcome of a direct run without errors is below d
module _ (d n : ℕ) (low : 0 < d) (ops : List Operation) (choices : List ℕ) (ac : Accepted d n ops [] choices) where
  abbrev total : ℕ
  total = measured ops (length ops)

  low-kind : (k : ℕ) → k < length ops → (t out : List ℕ) → ResultsRelated (Low d) total (measured ops k) out out → (x : Kind) → kind (op_at ops k) ≡ x
      → ResultsRelated (Low d) total (measured ops k + tally_kind x)
      (direct_kind d n choices (chosen ops k) (measured ops k) (record { rows = t; results = out }) (op_at ops k) x).results
      (direct_kind d n choices (chosen ops k) (measured ops k) (record { rows = t; results = out }) (op_at ops k) x).results
  unfolding direct_kind direct_look
  low-kind k l t out a gate e = let q : measured ops k + 0 ≡ measured ops k = omega arith in rw q a
  low-kind k l t out a (resets q) e = let z : measured ops k + 0 ≡ measured ops k = omega arith in rw z a
  low-kind k l t out a (corrects q m) e = let z : measured ops k + 0 ≡ measured ops k = omega arith in rw z a
  low-kind k l t out a (measures q) e = by (look d n t q) refl
    where
      j : ℕ
      j = measured ops k

      by : (x : Look) → look d n t q ≡ x
          → ResultsRelated (Low d) total (j + 1) (direct_look d n choices (chosen ops k) j q (record { rows = t; results = out }) x).results
          (direct_look d n choices (chosen ops k) j q (record { rows = t; results = out }) x).results
      by (Free i) y = related_more (Low d) total j _ _ 1 (measured-before ops k (length ops) q l e) (choice_in ac k l (ap choice_kind e)) a
      by (Certain outcome) y = related_more (Low d) total j _ _ 0 (measured-before ops k (length ops) q l e) (look-fits d n t q low y) a

  low_step : (k : ℕ) → k < length ops → (A : State) → ResultsRelated (Low d) total (measured ops k) A.results A.results
      → ResultsRelated (Low d) total (measured ops (suc k)) (direct_step d n ops [] choices k A).results (direct_step d n ops [] choices k A).results
  unfolding measured direct_step direct_errors
  low_step k l A a = low-kind k l _ _ a (kind (op_at ops k)) refl

  low_steps : (A : State) → ResultsRelated (Low d) total 0 A.results A.results → (count : ℕ) → count ≤ length ops
      → ResultsRelated (Low d) total (measured ops count) (steps_from (direct_step d n ops [] choices) 0 A count).results
      (steps_from (direct_step d n ops [] choices) 0 A count).results
  unfolding steps_from measured
  low_steps A a zero l = a
  low_steps A a (suc m) l = let q : 0 + m ≡ m = omega arith in rw q (low_step m l _ (low_steps A a m (omega arith)))

  low_run : (A : State) → 2 * total ≤ length A.results
      → ResultsRelated (Low d) total total (direct_run d n ops [] choices A).results (direct_run d n ops [] choices A).results
  unfolding direct_run direct_errors
  low_run A room = low_steps A (related_none (Low d) total room room) (length ops) (le_refl (length ops))

-- the copied tableau
module _ (n : ℕ) (t : List ℕ) (room : 2 * n * (2 * n + 1) ≤ length t) where
  abbrev copied : List ℕ
  copied = part 0 (2 * n * (2 * n + 1)) t

  copied-length : length copied ≡ 2 * n * (2 * n + 1)
  copied-length = part_length 0 (2 * n * (2 * n + 1)) t (omega arith)

  pub window : Window n t copied
  window =
      window_of n room (omega (arith, copied-length))
      (λ i l. let q : 0 + i ≡ i = omega arith in sym (part_at 0 (2 * n * (2 * n + 1)) t i l ∙ ap (λ (x : ℕ). get_or t x 0) q))

module _ {d n : ℕ} {tray t ops choices : List ℕ} (h : Ready d n tray t ops choices) where
  pub copied-valid : Valid d n (part 0 (2 * n * (2 * n + 1)) t)
  copied-valid = valid-window n (window n t h.tableau.room) h.tableau

  -- each measurement takes a choice
  pub few-measured : measurement_count (operations_of d n ops) ≤ length choices
  few-measured = omega (arith, measured-chosen (operations_of d n ops) (length (operations_of d n ops)), h.circuit.one_each)

  abbrev clean : State
  clean = copy_run d n ops choices t

  clean-shots : CleanShots d n ops clean.results clean.rows (1 + 2 * measurement_count (operations_of d n ops))
  clean-shots =
      let dim = dimension d h.dimension in
      let low = low_run d n (omega (arith, dim.low)) (operations_of d n ops) choices h.circuit (record { rows = part 0 (2 * n * (2 * n + 1)) t; results = blank (2 * measured (operations_of d n ops) (length (operations_of d n ops))) }) (omega (arith, blank-length (2 * measured (operations_of d n ops) (length (operations_of d n ops))))) in
      let exact = direct-results d n (operations_of d n ops) [] choices (record { rows = part 0 (2 * n * (2 * n + 1)) t; results = blank (2 * measured (operations_of d n ops) (length (operations_of d n ops))) }) ∙ blank-length (2 * measured (operations_of d n ops) (length (operations_of d n ops))) in
      record {
        circuit = record {
          dimension = h.dimension;
          qudits = h.qudits;
          short = h.few;
          operations = h.circuit.operations;
          names = h.circuit.names;
          room = low.room;
          below = low.outcome;
        };
        tableau = valid-tableau d n _ (run_keeps-valid d n dim (operations_of d n ops) [] choices h.circuit _ copied-valid);
        exact = exact;
        width = refl;
        narrow = omega (arith, h.short, few-measured);
      }

  pub loaded : TrayErrors d n tray
  loaded = record { lies = h.lies; errors-in-order = λ i l. (h.errors i l).errors-in-order }

  -- what the copy and its results hold after the clean run
  module _ (copy₀ copy copy' results results' : List ℕ) (size : length copy₀ ≡ 2 * n * (2 * n + 1)) (e : copy ≡ take (length copy₀) t)
      (f : results ≡ blank (2 * measurement_count (operations_of d n ops)))
      (g : record { rows = copy'; results = results' } ≡ direct_run d n (operations_of d n ops) [] choices (record { rows = copy; results = results })) where
    begins : ◌≡◌ {A = State} (record { rows = copy; results = results })
        (record { rows = part 0 (2 * n * (2 * n + 1)) t; results = replicate (2 * measured (operations_of d n ops) (length (operations_of d n ops))) 0 })
    unfolding part
    begins =
        ap₂ (λ (a b : List ℕ). let st : State = record { rows = a; results = b } in st) (e ∙ ap (λ (x : ℕ). take x t) size)
        f

    is-clean : ◌≡◌ {A = State} (record { rows = copy'; results = results' }) clean
    is-clean = g ∙ ap (λ (x : State). direct_run d n (operations_of d n ops) [] choices x) begins

    pub run_shots_lem : CleanShots d n ops results' copy' (1 + 2 * measurement_count (operations_of d n ops))
    run_shots_lem =
        let a : copy' ≡ clean.rows = ap (λ (x : State). x.rows) is-clean in
        let b : results' ≡ clean.results = ap (λ (x : State). x.results) is-clean in
        rw (a, b) clean-shots

    pub filled-by-clean : {w k r : ℕ} {out out' : List ℕ}
        → ShotsFilled d n (operations_of d n ops) (record { rows = copy'; results = results' }) (shot_errors tray) w 0 k out out'
        × (r ≡ shifted_shots d n (operations_of d n ops) (record { rows = copy'; results = results' }) (shot_errors tray) k)
        → ShotsFilled d n (operations_of d n ops) clean (shot_errors tray) w 0 k out out' × (r ≡ shifted_shots d n (operations_of d n ops) clean (shot_errors tray) k)
    filled-by-clean {w} {k} {r} {out} {out'} a =
        subst (λ (x : State). ShotsFilled d n (operations_of d n ops) x (shot_errors tray) w 0 k out out' × (r ≡ shifted_shots d n (operations_of d n ops) x (shot_errors tray) k)) is-clean a
