-- The zero tableau is valid, and each gate and error keeps validity.
-- Assumes nothing.
use mathlib.Core.Path.{◌≡◌}
use mathlib.Core.Bool.{true}
use mathlib.Core.List.{List}
use Prim.Native.Nat.{ℕ, suc, ◌+◌, ◌*◌, ◌<◌, ◌≤◌}
use native.Mathlib.Nat.{mod-lt}
use native.Mathlib.Omega.{arith}
use lib.ListN.{length}
use Rattle.congruence.proofs.Congruence.{cong_refl, cong_sym, cong_mod}
use Rattle.stabilizer.proofs.Bridge
use Rattle.stabilizer.proofs.Image.{valid-map}
use Rattle.modular.specs.Modular.{neg}
use Rattle.modular.specs.Dimension.{Dimension}
use Rattle.row.specs.Row.{Row, x_of, z_of, phase_of}
use Rattle.row.specs.Generators.{unit}
use Rattle.row.proofs.Fill.{row-length}
use Rattle.row_laws.proofs.Reading.{bytes, Reads, made}
use Rattle.operation.specs.declared.Operation.{Operation}
use Rattle.operation.specs.declared.WeylError.{WeylError}
use Rattle.operation.specs.Operation.{allowed}
use Rattle.operation.specs.Gate.{gate_rows}
use Rattle.operation.specs.Error.{error_row, error_rows}
use Rattle.operation.proofs.Gate.{gate-keeps}
use Rattle.operation.proofs.Error.{error-keeps}
use Rattle.zero_tableau.specs.ZeroTableau.{zero_row, zero_tableau}
use Rattle.validity.specs.Validity.{Valid}
use Rattle.conjugation.proofs.Acts.{mapped, gained, acts, reads-gate}
use Rattle.validity_laws.specs.Keeping.{ZeroValid, GateKeepsValid, ErrorKeepsValid}
use Rattle.validity_laws.proofs.View.{rows, at-odd, row_of_lem, reads_at, basis, valid-on, reads-unit}

-- An error leaves the powers.
pub reads-error : {d n : ℕ} {v : List ℕ} → 0 < d → (e : WeylError) → Row d n v
    → Reads d n (error_row d n e v) (bytes v) (phase_of n v + (e.s * x_of v e.qudit + neg d (e.p * z_of n v e.qudit)))
unfolding error_row
reads-error {d} {n} {v} low e h =
    made d n v (bytes v) _ _ h.len (λ s l. h.below s (omega arith)) (λ s l. cong_refl d _) (mod-lt _ low) (cong_sym (cong_mod d _))

module _ {e : ℕ} (dim : Dimension (suc e)) (n : ℕ) (t : List ℕ) where
  zero-odd : 2 * n * (2 * n + 1) ≤ length t → Valid (suc e) n (zero_tableau n t)
  unfolding zero_tableau
  zero-odd room =
      valid-on dim {r = λ i. 0} (Bridge.zero-valid e n) {f = zero_row n} (record { keeps = λ i v l. row-length n (unit i) 0 }) t room
      (λ i l. reads-unit (omega (arith, dim.low)) n i (omega arith))

  gate-odd : (op : Operation) → allowed (suc e) n op ≡ true → Valid (suc e) n t → Valid (suc e) n (gate_rows (suc e) n op t)
  gate-odd op h ok =
      valid-on dim (valid-map e n (mapped _ n op) (gained _ n op) (acts dim op h).hom (rows n t) (basis ok)) (gate-keeps _ n op) t ok.room
      (λ i l. reads-gate dim op h (reads_at ok i l))

  error-odd : (er : WeylError) → Valid (suc e) n t → Valid (suc e) n (error_rows (suc e) n er t)
  error-odd er ok = valid-on dim (basis ok) (error-keeps _ n er) t ok.room (λ i l. reads-error (omega arith) er (row_of_lem ok i l))

pub zero-valid : ZeroValid
zero-valid d n dim t room = at-odd (λ z. Valid z n (zero_tableau n t)) (λ f k. zero-odd k n t room) dim

pub gate-keeps-valid : GateKeepsValid
gate-keeps-valid d n dim op h t ok =
    at-odd (λ z. allowed z n op ≡ true → Valid z n t → Valid z n (gate_rows z n op t)) (λ f k. gate-odd k n t op) dim h ok

pub error-keeps-valid : ErrorKeepsValid
error-keeps-valid d n dim e h t ok = at-odd (λ z. Valid z n t → Valid z n (error_rows z n e t)) (λ f k. error-odd k n t e) dim ok
