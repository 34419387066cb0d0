-- The frame run is the clean run, the carried frame and then the shifts.
use Rattle.std.proofs.Common.{length, refl, ap, ◌∙◌, arith}
use Rattle.modular.proofs.Listed.{dimension}
use Rattle.validity.proofs.Exactly.{valid-tableau}
use Rattle.book.specs.Decoded.{operations_of, errors_of}
use Rattle.runs.specs.Direct.{state_of}
use Rattle.runs.proofs.Frames.{no-frame}
use Rattle.runs.proofs.Results.{measured-chosen}
use Rattle.frame_run.proofs.Ends.{run_ends}
use Rattle.frame_run.proofs.run_in.Goals as goal

pub carry-requires : goal.carry-requires
carry-requires c =
    let g = c.requires.0 in
    let ops = operations_of c.args.d c.args.n c.args.ops.now in
    let dim = dimension c.args.d g.dimension in
    record {
      dimension = g.dimension;
      allowed = g.lists.operations;
      named = g.lists.names;
      in_order = g.lists.errors-in-order;
      few = omega (arith, g.few, g.lists.one_each, measured-chosen ops (length ops));
      room = omega (arith, c.requires.1.results-room);
      frame = rw c.requires.2 (no-frame c.args.d c.args.n (omega arith)).powers;
    }

pub finish-verdict-requires : goal.finish-verdict-requires
finish-verdict-requires c =
    let g = c.requires.0 in
    let dim = dimension c.args.d g.dimension in (
      record { low = dim.low; high = dim.high; qudits = g.qudits },
      c.requires.1.shifts-room,
      c.requires.1.frame-room,
      valid-tableau _ _ _ c.run-place.ensures.valid,
      record {
        powers = c.carry.ensures.frame;
        len = c.carry.ensures.len ∙ ap length c.requires.2 ∙ (no-frame c.args.d c.args.n (omega arith)).len;
      },
    )

pub returns : goal.returns
returns c =
    let a = c.args in
    let after = c.carry.ensures in
    let e = c.finish-verdict.ensures in (
      run_ends a.d a.n (operations_of a.d a.n a.ops.now) (errors_of a.errors.now) a.choices.now (state_of a.rows.now a.results.now)
          a.shifts.now
          a.out.now
          (omega (arith, (dimension a.d c.requires.0.dimension).low))
          c.requires.1.results-room
          c.run-place.ensures.state c.requires.2 after.final_frame after.reported e.0 e.1 e.2 e.3,
      refl,
      c.run-place.ensures.measurements,
    )
