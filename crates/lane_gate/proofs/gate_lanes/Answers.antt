use Rattle.std.proofs.Common.{refl, inl, inr}
use Rattle.modular.proofs.Listed.{dimension}
use Rattle.operation.specs.Gate.{gate_powers}
use Rattle.operation.proofs.Operands.{single-facts}
use Rattle.lane_gate.proofs.gate_lanes.Goals as goal

pub change_lanes-requires-in-Multiplier-clause-operands : goal.change_lanes-requires-in-Multiplier-clause-operands
change_lanes-requires-in-Multiplier-clause-operands c =
    let f = single-facts _ _ _ _ (rw c.in-Multiplier.is at c.requires.operation) in (
      f.0,
      record {
        below = f.2;
        inverts = c.inverse-inverse.ensures;
        small = rw c.inverse-inverse.ensures ((dimension c.args.m.d c.requires.dimension).small c.in-Multiplier.u);
      },
    )

pub returns-in-Measure-clause-changed : goal.returns-in-Measure-clause-changed
unfolding gate_powers
returns-in-Measure-clause-changed c =
    record {
      len = refl;
      each = λ l h. elim c.in-Measure.is [ inl h ↦ rw h.1 | inr r ↦ elim r [ inl h ↦ rw h.1 | inr h ↦ rw h.2 ] ];
    }

pub inverse-inverse-requires : goal.inverse-inverse-requires
inverse-inverse-requires c = let l = dimension c.args.m.d c.requires.dimension in (l.low, l.high)
