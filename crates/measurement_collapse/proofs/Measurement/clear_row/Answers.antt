-- The exponent h is −f/e, and the power that it names is a row.
use Rattle.std.proofs.Common.{ℕ, ◌*◌, ◌%◌, ◌<◌, ap, ◌∙◌, arith}
use Rattle.modular.specs.Modular.{neg}
use Rattle.modular.proofs.Listed.{inverse-less}
use Rattle.modular.proofs.Residue.{rest-less}
use Rattle.row.specs.Row.{x_of, product, power}
use Rattle.row.proofs.Laws.{power-row}
use Rattle.measurement_collapse.specs.FreeMeasurement.{cleared}
use Rattle.measurement_collapse.specs.Clearing.{pivot_of}
use Rattle.measurement_collapse.proofs.Exponents.{exponent}
use Rattle.measurement_collapse.proofs.Powers.{power-multiple}
use Rattle.measurement_collapse.proofs.Measurement.clear_row.Goals as goal

pub negative-requires : goal.negative-requires
negative-requires c = let s = c.args.self.now in rw s.prepared.inverts (inverse-less _ _ s.low)

pub product-requires-clause-right : goal.product-requires-clause-right
product-requires-clause-right c =
    let s = c.args.self.now in
    rw c.power.ensures
    (record {
      row = power-row _ _ _ _ (omega arith);
      factor = rest-less _ (omega arith) c.mul-h.ensures;
      powers = power-multiple _ _ _ s.prepared.pivot _ _ s.prepared.widened;
    })

pub returns : goal.returns
unfolding cleared
returns c =
    let s = c.args.self.now in
    let d = s.m.d in
    let v = c.args.v.now in
    let small : s.inv < d = rw s.prepared.inverts (inverse-less _ _ s.low) in
    let h = rw c.negative.ensures at c.mul-h.ensures ∙ exponent d s.inv (x_of v s.q) small (c.requires.below s.q (omega arith)) ∙ ap (λ (x : ℕ). neg d (x_of v s.q) * x % d) s.prepared.inverts in
    c.product.ensures ∙ ap (product d s.n v) (c.power.ensures ∙ ap (λ (x : ℕ). power d s.n x (pivot_of s)) h)
