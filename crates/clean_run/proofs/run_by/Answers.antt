-- Each turn is one operation more, a gate or another.
use Rattle.std.proofs.Common.{◌≡◌, length, arith, refl, ap, ◌∙◌}
use Rattle.circuit.specs.Circuit.{measured, chosen}
use Rattle.book.specs.Circuits.{operation_list}
use Rattle.runs.specs.Run.{steps_from}
use Rattle.measure_step.proofs.Supply.{supplied, roomy}
use Rattle.direct_step.proofs.Counting.{counting}
use Rattle.direct_step.proofs.Steps.{gate-is}
use Rattle.clean_run.proofs.Steps.{one_more, all_done}
use Rattle.clean_run.proofs.run_by.Goals as goal
use Rattle.clean_run.proofs.run_by.Goals.{then-code-lt6, else-code-lt6}

pub loop-k-init : goal.loop-k-init
unfolding steps_from measured chosen
loop-k-init c = record {
  done = refl;
  measured = omega arith;
  chosen = omega arith;
  valid = c.requires.valid;
}

pub operate-requires-clause-named : goal.operate-requires-clause-named
operate-requires-clause-named c = rw c.loop-k.invariant.measured (c.requires.accepted.names c.loop-k.k (omega arith))

pub operate-requires-clause-supplied : goal.operate-requires-clause-supplied
operate-requires-clause-supplied c = supplied c.requires.accepted c.loop-k.k (omega arith) c.loop-k.invariant.chosen

pub operate-requires-clause-room : goal.operate-requires-clause-room
operate-requires-clause-room c = roomy (operation_list c.args.circuit.now) c.loop-k.results (omega arith) c.loop-k.k (omega arith) c.loop-k.invariant.measured

pub loop-k-preserved : goal.loop-k-preserved
loop-k-preserved c =
    let circuit = c.args.circuit.now in
    let i = c.loop-k.invariant in
    record {
      done =
          elim c.if-code-lt6.branch [
            | then-code-lt6 w ↦
                rw (w.t-is, w.results-is)
                (one_more circuit.d circuit.n (operation_list circuit) circuit.choices.now _ c.loop-k.k i.chosen i.measured i.done
                (gate-is circuit c.loop-k.k _ _ _ _ (omega arith) (c.requires.accepted.operations c.loop-k.k (omega arith)) (rw c.code.ensures at w.if-code-lt6.true) w.operate_gate.ensures.rows))
            | else-code-lt6 w ↦
                rw (w.t-is, w.results-is)
                (one_more circuit.d circuit.n (operation_list circuit) circuit.choices.now _ c.loop-k.k i.chosen i.measured i.done w.operate.ensures.state)
          ];
      measured = grind (arith, counting);
      chosen = grind (arith, counting);
      valid =
          elim c.if-code-lt6.branch [
            | then-code-lt6 w ↦ rw w.t-is w.operate_gate.ensures.valid
            | else-code-lt6 w ↦ rw w.t-is w.operate.ensures.valid
          ];
    }

pub returns-clause-state : goal.returns-clause-state
returns-clause-state c =
    let circuit = c.args.circuit.now in
    all_done circuit.d circuit.n (operation_list circuit) circuit.choices.now _ c.loop-k.k c.loop-k.invariant.done (omega arith) (omega arith)

pub returns-clause-measurements : goal.returns-clause-measurements
returns-clause-measurements c =
    let all : c.loop-k.k ≡ length (operation_list c.args.circuit.now) = omega arith in
    c.loop-k.invariant.measured ∙ ap (measured (operation_list c.args.circuit.now)) all
