-- A shot without errors has the clean run's own bytes, and is clean.
-- Assumes nothing.
use mathlib.Core.Path.{◌≡◌, refl, sym, ◌∙◌}
use mathlib.Core.Bool.{true}
use mathlib.Core.List.{List, [], ◌∷◌}
use Prim.Native.Nat.{ℕ, ◌*◌, ◌<◌}
use native.Mathlib.Nat.{add-zero, mod-eq_of_lt}
use native.Mathlib.Omega.{arith}
use lib.ListN.{length, get_or}
use lib.Seq.{ext_get_or}
use Rattle.modular.specs.Dimension.{Dimension}
use Rattle.row.specs.Row.{tab}
use Rattle.row.proofs.Fill.{tab-length, tab-get}
use Rattle.operation.specs.declared.Operation.{Operation}
use Rattle.operation.specs.Operation.{allowed}
use Rattle.circuit.specs.Circuit.{op_at, measured}
use Rattle.runs.specs.Direct.{State}
use Rattle.runs.specs.Frame.{no_frame}
use Rattle.runs.specs.Raised.{result_shifts}
use Rattle.runs.specs.Carry.{shifted_byte_at}
use Rattle.runs.proofs.Carry.{shifted-byte}
use Rattle.run_laws.proofs.NoErrors.{shifts_none, final_clean}
use Rattle.shots.specs.Clean.{clean_plus}

module _ (d n : ℕ) (dim : Dimension d) (ops : List Operation) (good : (k : ℕ) → k < length ops → allowed d n (op_at ops k) ≡ true) (clean : State)
    (exact : length clean.results ≡ 2 * measured ops (length ops))
    (below : (i : ℕ) → i < measured ops (length ops) → get_or clean.results (2 * i) 0 < d) where
  abbrev total : ℕ
  total = measured ops (length ops)

  abbrev shifts : List ℕ
  shifts = result_shifts d n ops [] (no_frame n)

  no_shift_lem : (b : ℕ) → b < 2 * total → get_or clean.results b 0 ≡ shifted_byte_at d clean.results shifts b
  no_shift_lem =
      shifted-byte d shifts clean.results total (λ b. get_or clean.results b 0)
      (λ j l.
      rw (shifts_none d n dim ops good j, add-zero (get_or clean.results (2 * j) 0))
      (sym (mod-eq_of_lt (below j l))))
      (λ j l. refl)

  pub clean-alone : clean_plus d n ops clean [] ≡ 0 ∷ clean.results
  unfolding clean_plus
  clean-alone =
      let size : length (tab (shifted_byte_at d clean.results shifts) (2 * total)) ≡ 2 * total = tab-length (shifted_byte_at d clean.results shifts) (2 * total) in
      let same : tab (shifted_byte_at d clean.results shifts) (2 * total) ≡ clean.results =
      ext_get_or 0 _ _ (size ∙ sym exact)
      (λ b l.
      let k : b < 2 * total = omega (arith, size) in
      tab-get (shifted_byte_at d clean.results shifts) (2 * total) b 0 k ∙ sym (no_shift_lem b k)) in
      rw (final_clean d n dim ops good clean.rows, same)
