-- The next phase, its gain and the next power are what the invariant says of them.
use Rattle.std.proofs.Common.{◌+◌, ◌*◌, ◌<◌, [], take, sym, ap, ◌∙◌, arith}
use Rattle.modular.proofs.Residue.{rest-less}
use Rattle.row.specs.Row.{phase_of, dot}
use Rattle.row.proofs.Laws.{power-row}
use Rattle.measurement_collapse.proofs.Exponents.{gain-none, gain-more}
use Rattle.measurement_collapse.proofs.Powers.{next-power, phase-more, phase-none, powers_joined}
use Rattle.measurement_collapse.proofs.fill_powers.Goals as goal

pub loop-h-init : goal.loop-h-init
loop-h-init c =
    let a = c.args in
    (omega arith, c.requires.none, sym (phase-none a.m.d a.n a.pivot.now (omega arith)), gain-none a.m.d _ _ (c.requires.pivot.below (2 * a.n) (omega arith)))

pub add-phase-requires : goal.add-phase-requires
add-phase-requires c =
    let a = c.args in
    let l = c.loop-h in
    let g : l.gain < a.m.d = rest-less _ (omega arith) l.invariant.3 in
    let o : c.reduce_wide-own.result < a.m.d = rest-less _ (omega arith) c.reduce_wide-own.ensures in
    (omega arith, rw l.invariant.2 ((power-row a.m.d a.n l.h a.pivot.now (omega arith)).below (2 * a.n) (omega arith)), omega arith)

pub next_power-requires-clause-before : goal.next_power-requires-clause-before
next_power-requires-clause-before c =
    let a = c.args in
    let e = ap (take (2 * a.n + 1)) (c.split_at_mut-made.ensures.by_index.0 c.loop-h.h [] (omega arith)) ∙ c.loop-h.invariant.1.at_place c.loop-h.h (omega arith) in
    rw e (power-row a.m.d a.n c.loop-h.h a.pivot.now (omega arith))

pub loop-h-preserved : goal.loop-h-preserved
loop-h-preserved c =
    let a = c.args in
    let l = c.loop-h in
    let d = a.m.d in
    let v = a.pivot.now in
    let x = c.add-phase.ensures ∙ phase-more d a.n v c.requires.pivot l.h _ _ l.invariant.2 l.invariant.3 in
    let s = c.split_at_mut-made.ensures in
    let e = rw (ap (take (2 * a.n + 1)) (s.by_index.0 l.h [] (omega arith)) ∙ l.invariant.1.at_place l.h (omega arith)) at c.next_power.ensures in (
      omega arith,
      powers_joined d a.n v l.p _ _ l.h _ s.value s.front_len l.invariant.1 (omega arith) (e ∙ next-power d a.n v c.requires.pivot l.h _ x),
      x,
      c.add-gain.ensures
          ∙ rw (l.invariant.3, c.reduce_wide-own.ensures, c.from.ensures, c.dot.ensures.0)
          (gain-more d l.h (phase_of a.n v) (dot a.n v v a.n)),
    )
