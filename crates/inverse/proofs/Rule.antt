-- The rule of the inverses.
-- Assumes nothing.
use mathlib.Core.Path.{ap, ◌∙◌}
use Rattle.modular.specs.Dimension.{inverse}
use Rattle.modular.proofs.Listed.{dimension, inverse-zero, inverse-past}
use Rattle.inverse.specs.Rule.{InverseRight}

pub inverse-right : InverseRight
inverse-right d l u =
    let dim = dimension d l in
    record { unit = dim.rule u; zeroth = λ z. ap (inverse d) z ∙ inverse-zero d dim.low; past = inverse-past d u }
