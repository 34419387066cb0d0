use Rattle.std.proofs.Common.{◌∙◌, refl}
use Rattle.modular.proofs.Listed.{dimension}
use Rattle.lane_shots.proofs.Starting.{empty, lanes_start, queued-start}
use Rattle.lane_shots.proofs.Rows.{shifted-all, shot-rows}
use Rattle.lane_shots.proofs.fill.Goals as goal

pub run-requires-clause-start : goal.run-requires-clause-start
run-requires-clause-start c =
    let clean = c.args.clean.now in
    let circuit = clean.circuit in
    record {
      dimension = c.requires.dimension;
      qudits = c.requires.qudits;
      lanes = lanes_start clean.m.d clean.n (dimension _ circuit.dimension) circuit.qudits refl;
      empty = empty clean.n refl;
      queued = queued-start _ c.enqueue_all.ensures;
      first = refl;
      count = refl;
    }

pub returns-clause-rows : goal.returns-clause-rows
returns-clause-rows c =
    let clean = c.args.clean.now in
    let e = c.run.ensures in
    shot-rows _ _ _ _ _ _ _ _ (empty clean.n refl) c.requires.shots.lanes e.carried _ clean.width _ _ _ c.requires.shots.room e.results c.write_verdicts.ensures.written

pub returns-clause-shifted : goal.returns-clause-shifted
returns-clause-shifted c =
    let clean = c.args.clean.now in
    c.write_verdicts.ensures.shifted ∙ shifted-all _ _ _ _ _ _ _ _ (empty clean.n refl) c.requires.shots.lanes c.run.ensures.carried
