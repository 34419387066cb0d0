use Rattle.std.proofs.Common.{◌≡◌, true, refl, sym, arith, rules}
use Rattle.modular.proofs.Listed.{dimension}
use Rattle.operation.specs.declared.Operation.{Operation}
use Rattle.operation.specs.declared.Operation.TheVariants.{Fourier, PhaseGate, Sum, Cz, Swap, Multiplier}
use Rattle.operation.specs.Operation.{allowed}
use Rattle.operation.proofs.Operands.{distinct-facts, single-facts, pair-facts}
use Rattle.circuit.specs.Circuit.{op_at}
use Rattle.book_entries.specs.Entry.{coded}
use Rattle.book.specs.Decoded.{operations_of}
use Rattle.book.proofs.Lists.{op-count}
use Rattle.operation_codes.proofs.Codes.{is-coded, code-rest}
use Rattle.lane_gate.proofs.perform.Goals as goal
use Rattle.lane_gate.proofs.perform.Goals.{After-times_in-times}

-- once the entry is read: its operation, by its code
module _ (c : After-times_in-times) where
  abbrev op : Operation
  op = let a = c.args in op_at (operations_of a.m.d a.n a.ops.now) a.k

  good : allowed c.args.m.d c.args.n op ≡ true
  good = c.requires.operations c.args.k (omega (arith, c.requires.index, op-count c.args.m.d c.args.n c.args.ops.now))

  is : op ≡ coded c.at-entry.result.code c.from-q.result c.from-t.result c.at-entry.result.last
  is = rw (c.from-q.ensures, c.from-t.ensures, c.at-entry.ensures) (is-coded _ _ _ _ c.requires.index good)

  fourier : c.at-entry.result.code ≡ 0 → op ≡ Fourier c.from-q.result c.times_in-times.result
  unfolding coded
  fourier e = rw c.times_in-times.ensures (rw e at is)

  phase_gate : c.at-entry.result.code ≡ 1 → op ≡ PhaseGate c.from-q.result c.times_in-times.result
  unfolding coded
  phase_gate e = rw c.times_in-times.ensures (rw e at is)

  sum : c.at-entry.result.code ≡ 2 → op ≡ Sum c.from-q.result c.from-t.result c.times_in-times.result
  unfolding coded
  sum e = rw c.times_in-times.ensures (rw e at is)

  cz : c.at-entry.result.code ≡ 3 → op ≡ Cz c.from-q.result c.from-t.result c.times_in-times.result
  unfolding coded
  cz e = rw c.times_in-times.ensures (rw e at is)

  swap : c.at-entry.result.code ≡ 4 → op ≡ Swap c.from-q.result c.from-t.result
  unfolding coded
  swap e = rw e at is

  multiplier : c.at-entry.result.code ≡ 5 → op ≡ Multiplier c.from-q.result c.at-entry.result.last
  unfolding coded
  multiplier e = rw e at is

pub change_lanes-requires-clause-operands : goal.change_lanes-requires-clause-operands
change_lanes-requires-clause-operands c =
    let e = (goal.at.change_lanes-requires-clause-operands c).After-times_in-times in
    (single-facts 4 c.args.n c.from-q.result c.times_in-times.result (rw (fourier e c.in-0.is) at (good e))).0

pub change_lanes-requires-in-1-clause-operands : goal.change_lanes-requires-in-1-clause-operands
change_lanes-requires-in-1-clause-operands c =
    let e = (goal.at.change_lanes-requires-in-1-clause-operands c).After-times_in-times in
    let f = single-facts c.args.m.d c.args.n c.from-q.result c.times_in-times.result (rw (phase_gate e c.in-1.is) at (good e)) in (f.0, f.2)

pub change_lanes-requires-in-2-clause-operands : goal.change_lanes-requires-in-2-clause-operands
change_lanes-requires-in-2-clause-operands c =
    let e = (goal.at.change_lanes-requires-in-2-clause-operands c).After-times_in-times in
    let f = pair-facts c.args.m.d c.args.n c.from-q.result c.from-t.result c.times_in-times.result (rw (sum e c.in-2.is) at (good e)) in (omega arith, omega arith, f.4)

pub change_lanes-requires-in-3-clause-operands : goal.change_lanes-requires-in-3-clause-operands
change_lanes-requires-in-3-clause-operands c =
    let e = (goal.at.change_lanes-requires-in-3-clause-operands c).After-times_in-times in
    let f = pair-facts c.args.m.d c.args.n c.from-q.result c.from-t.result c.times_in-times.result (rw (cz e c.in-3.is) at (good e)) in (omega arith, omega arith, f.4)

pub change_lanes-requires-in-4-clause-operands : goal.change_lanes-requires-in-4-clause-operands
change_lanes-requires-in-4-clause-operands c =
    let e = (goal.at.change_lanes-requires-in-4-clause-operands c).After-times_in-times in
    let f = distinct-facts c.args.n c.from-q.result c.from-t.result (rw (swap e c.in-4.is) at (good e)) in (f.0, f.1)

pub inverse-inverse-requires : goal.inverse-inverse-requires
inverse-inverse-requires c = let l = dimension c.args.m.d c.requires.dimension in (l.low, l.high)

pub change_lanes-requires-in-5-clause-operands : goal.change_lanes-requires-in-5-clause-operands
change_lanes-requires-in-5-clause-operands c =
    let e = (goal.at.change_lanes-requires-in-5-clause-operands c).After-times_in-times in
    let f = single-facts c.args.m.d c.args.n c.from-q.result c.at-entry.result.last (rw (multiplier e c.in-5.is) at (good e)) in (
      f.0,
      record {
        below = f.2;
        inverts = c.inverse-inverse.ensures;
        small = rw c.inverse-inverse.ensures ((dimension c.args.m.d c.requires.dimension).small c.at-entry.result.last);
      },
    )

pub returns-in-0-clause-changed : goal.returns-in-0-clause-changed
returns-in-0-clause-changed c = rw (fourier (goal.at.returns-in-0-clause-changed c).After-times_in-times c.in-0.is) c.change_lanes.ensures.changed

pub returns-in-1-clause-changed : goal.returns-in-1-clause-changed
returns-in-1-clause-changed c = rw (phase_gate (goal.at.returns-in-1-clause-changed c).After-times_in-times c.in-1.is) c.change_lanes-in-1.ensures.changed

pub returns-in-2-clause-changed : goal.returns-in-2-clause-changed
returns-in-2-clause-changed c = rw (sum (goal.at.returns-in-2-clause-changed c).After-times_in-times c.in-2.is) c.change_lanes-in-2.ensures.changed

pub returns-in-3-clause-changed : goal.returns-in-3-clause-changed
returns-in-3-clause-changed c = rw (cz (goal.at.returns-in-3-clause-changed c).After-times_in-times c.in-3.is) c.change_lanes-in-3.ensures.changed

pub returns-in-4-clause-changed : goal.returns-in-4-clause-changed
returns-in-4-clause-changed c = rw (swap (goal.at.returns-in-4-clause-changed c).After-times_in-times c.in-4.is) c.change_lanes-in-4.ensures.changed

pub returns-in-5-clause-changed : goal.returns-in-5-clause-changed
returns-in-5-clause-changed c = rw (multiplier (goal.at.returns-in-5-clause-changed c).After-times_in-times c.in-5.is) c.change_lanes-in-5.ensures.changed

pub returns-in_default-clause-changed : goal.returns-in_default-clause-changed
returns-in_default-clause-changed c =
    let e = (goal.at.returns-in_default-clause-changed c).After-times_in-times in
    let rest = code-rest c.args.m.d c.args.n c.args.ops.now c.args.k c.requires.index (good e) (search rules) in
    record { len = refl; each = λ l h. sym (rest _) }
