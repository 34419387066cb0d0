-- A direct run depends on the needed bytes of its buffers alone: demand 3 with a set of buffers for each run.
-- Assumes nothing.
use mathlib.Core.Path.{◌≡◌, refl, sym, ◌∙◌}
use mathlib.Core.List.{List}
use Prim.Native.Nat.{ℕ, zero, suc, ◌+◌, ◌≤◌, ◌<◌}
use native.Mathlib.Nat.{le_refl}
use native.Mathlib.Omega.{arith}
use lib.ListN.{length}
use Rattle.operation.specs.declared.Operation.{Operation}
use Rattle.operation.specs.declared.WeylError.{WeylError}
use Rattle.circuit.specs.Circuit.{op_at, Kind, gate, measures, resets, corrects, kind, tally_kind, measured, chosen}
use Rattle.validity.proofs.Exactly.{valid-tableau}
use Rattle.measurement.specs.declared.Look.{Look}
use Rattle.measurement.specs.declared.Look.TheVariants.{Free, Certain}
use Rattle.measurement.specs.Look.{look}
use Rattle.measurement_laws.proofs.Looks.{look-free}
use Rattle.runs.specs.Run.{steps_from}
use Rattle.runs.specs.Direct.{State, direct_look, reset_rows, direct_kind, direct_errors, direct_step, direct_run}
use Rattle.runs.specs.Frame.{FrameEnd, no_frame, frame_run}
use Rattle.runs.specs.Raised.{raised}
use Rattle.runs.proofs.Frames.{no-powers, no-frame}
use Rattle.runs.proofs.Results.{measured-before}
use Rattle.run_laws.specs.Carrying.{Agree, RunsAgree}
use Rattle.operation.specs.Error.{minus_x}
use Rattle.run_laws.proofs.Books.{named_in}
use Rattle.run_laws.proofs.Rows.{shifted_none}
use Rattle.run_laws.proofs.Fold.{runs_agree-from}
use Rattle.run_laws.proofs.Results.{ResultsRelated, related_none, related_more, Equal, shifted-bytes}
use Rattle.run_laws.proofs.Window.{Window, window_of, window_bytes, window-gate, window-error, window-collapse, look-same, window-errors}

-- two runs over two sets of buffers, after m measurements of `total`
pub record Twin (n total m : ℕ) (A B : State) : Type 0 where
  pub rows : Window n A.rows B.rows
  pub results : ResultsRelated Equal total m A.results B.results

-- each correction names a measurement before it
module _ (d n : ℕ) (low : 1 < d) (ops : List Operation) (errors : List WeylError) (choices : List ℕ)
    (names : (k t m : ℕ) → k < length ops → kind (op_at ops k) ≡ corrects t m → m < measured ops k) where
  abbrev total : ℕ
  total = measured ops (length ops)

  twin_kind : (k : ℕ) → k < length ops → (t u out out' : List ℕ) → Window n t u → ResultsRelated Equal total (measured ops k) out out' → (x : Kind) → kind (op_at ops k) ≡ x
      → Twin n total (measured ops k + tally_kind x)
      (direct_kind d n choices (chosen ops k) (measured ops k) (record { rows = t; results = out }) (op_at ops k) x)
      (direct_kind d n choices (chosen ops k) (measured ops k) (record { rows = u; results = out' }) (op_at ops k) x)
  unfolding direct_kind direct_look reset_rows
  twin_kind k l t u out out' w a gate e =
      let q : measured ops k + 0 ≡ measured ops k = omega arith in
      rw q (record { rows = window-gate n w d (op_at ops k); results = a })
  twin_kind k l t u out out' w a (measures q) e = rw (← look-same n w d q) (by (look d n t q) refl)
    where
      j : ℕ
      j = measured ops k

      lj : j < total
      lj = measured-before ops k (length ops) q l e

      by : (x : Look) → look d n t q ≡ x
          → Twin n total (j + 1) (direct_look d n choices (chosen ops k) j q (record { rows = t; results = out }) x)
          (direct_look d n choices (chosen ops k) j q (record { rows = u; results = out' }) x)
      by (Free i) y = record { rows = window-collapse n w d q i _ low (look-free d n t q i y).number; results = related_more Equal total j _ _ 1 lj refl a }
      by (Certain outcome) y = record { rows = w; results = related_more Equal total j _ _ 0 lj refl a }
  twin_kind k l t u out out' w a (resets q) e =
      let z : measured ops k + 0 ≡ measured ops k = omega arith in
      rw (z, ← look-same n w d q) (record { rows = by (look d n t q) refl; results = a })
    where
      by : (x : Look) → look d n t q ≡ x → Window n (reset_rows d n choices (chosen ops k) q t x) (reset_rows d n choices (chosen ops k) q u x)
      by (Free i) y = window-error n (window-collapse n w d q i _ low (look-free d n t q i y).number) d _
      by (Certain outcome) y = window-error n w d (minus_x d q outcome)
  twin_kind k l t u out out' w a (corrects q m) e =
      let z : measured ops k + 0 ≡ measured ops k = omega arith in
      rw (z, a.outcome m (names k q m l e)) (record { rows = window-error n w d _; results = a })

  twin_step : (k : ℕ) → k < length ops → {A B : State} → Twin n total (measured ops k) A B
      → Twin n total (measured ops (suc k)) (direct_step d n ops errors choices k A) (direct_step d n ops errors choices k B)
  unfolding measured direct_step direct_errors
  twin_step k l a = twin_kind k l _ _ _ _ (window-errors d n errors k a.rows (length errors)) a.results (kind (op_at ops k)) refl

  twin_steps : {A B : State} → Twin n total 0 A B → (count : ℕ) → count ≤ length ops
      → Twin n total (measured ops count) (steps_from (direct_step d n ops errors choices) 0 A count) (steps_from (direct_step d n ops errors choices) 0 B count)
  unfolding steps_from measured
  twin_steps start zero l = start
  twin_steps start (suc m) l = let q : 0 + m ≡ m = omega arith in rw q (twin_step m l (twin_steps start m (omega arith)))

  pub twin_run : {A B : State} → Twin n total 0 A B → Twin n total total (direct_run d n ops errors choices A) (direct_run d n ops errors choices B)
  unfolding direct_run direct_errors
  twin_run start =
      let a = twin_steps start (length ops) (le_refl (length ops)) in
      record { rows = window-errors d n errors (length ops) a.rows (length errors); results = a.results }

-- What agrees with a run agrees with its twin.
agree_twin : {n total : ℕ} {A A' : State} {B : FrameEnd} → Twin n total total A A' → Agree n total A B → Agree n total A' B
agree_twin {n} a s =
    record {
      tableau = λ i l. sym (window_bytes n a.rows i l) ∙ s.tableau i l;
      results = λ i l. shifted-bytes a.results i l ∙ s.results i l;
    }

pub runs_agree : RunsAgree
unfolding frame_run
runs_agree d n dim ops errors choices ac t t' results results' shifts frame ok room' same r r' =
    let none = shifted_none d n (no_frame n) t (valid-tableau d n t ok) (λ s l. no-powers n s) in
    let empty = no-frame d n (omega (arith, dim.low)) in
    agree_twin
    (twin_run d n (omega (arith, dim.low)) ops errors (raised d n ops errors (no_frame n) choices) (named_in ac)
    (record { rows = window_of n ok.room room' (λ i l. sym (same i l)); results = related_none Equal (measured ops (length ops)) r r' }))
    (rw none at
    (runs_agree-from d n dim ops errors choices (no_frame n) ac empty.powers empty.len t results shifts frame ok))
