use Rattle.std.proofs.Common.{◌≡◌, suc, ◌+◌, ◌-◌, ◌≤◌, ◌∙◌, sym, ap, arith}
use Rattle.tableau.proofs.Parts.{row_in}
use Rattle.expand.specs.Expand.{noisy_among}
use Rattle.expand.proofs.Places.{expanding_none, expanding_more, expanding_all}
use Rattle.expand.proofs.expand.Goals as goal

pub loop-i-init : goal.loop-i-init
loop-i-init c =
    record { noisy_count = c.requires.noisy_count; expanding = expanding_none c.args.tray.now c.args.first c.args.clean.now c.args.w }

pub returns-then-i-k : goal.returns-then-i-k
returns-then-i-k c =
    let i = c.loop-i.invariant in
    let full : c.loop-i.i ≤ noisy_among c.args.tray.now c.args.first c.loop-i.i = omega (arith, i.noisy_count) in
    expanding_all c.args.tray.now c.args.first c.args.clean.now c.args.w c.args.count c.loop-i.i c.args.out.now c.loop-i.out full i.expanding

pub row_at-k-requires-clause-rows : goal.row_at-k-requires-clause-rows
row_at-k-requires-clause-rows c =
    let r = c.requires.rows in
    record {
      width = r.width;
      narrow = r.narrow;
      shots = omega (arith, r.shots);
      table = r.table;
      room = omega (arith, row_in (c.loop-i.i - 1) c.args.count c.args.w (omega arith), c.loop-i.auto.out, r.room);
    }

pub row_at-k-requires-clause-noisy_count : goal.row_at-k-requires-clause-noisy_count
row_at-k-requires-clause-noisy_count c =
    let up : c.loop-i.i - 1 + 1 ≡ c.loop-i.i = omega arith in
    c.loop-i.invariant.noisy_count ∙ ap (noisy_among c.args.tray.now c.args.first) (sym up)

pub loop-i-preserved : goal.loop-i-preserved
loop-i-preserved c =
    let a = c.args in
    let i = c.loop-i.invariant in
    let e = c.row_at-k.ensures in
    let up : c.loop-i.i ≡ suc (c.loop-i.i - 1) = omega arith in
    let few : noisy_among a.tray.now a.first (suc (c.loop-i.i - 1)) ≤ c.loop-i.i - 1 = omega (arith, i.noisy_count, ap (noisy_among a.tray.now a.first) up) in
    record {
      noisy_count = e.noisy_before;
      expanding = rw e.row (expanding_more a.tray.now a.first a.clean.now a.w c.requires.rows.width a.count (c.loop-i.i - 1) (omega arith) a.out.now c.loop-i.out c.requires.rows.room few (rw up at i.expanding));
    }

pub returns : goal.returns
returns c =
    let none : c.loop-i.i ≤ noisy_among c.args.tray.now c.args.first c.loop-i.i = omega arith in
    expanding_all c.args.tray.now c.args.first c.args.clean.now c.args.w c.args.count c.loop-i.i c.args.out.now c.loop-i.out none c.loop-i.invariant.expanding
