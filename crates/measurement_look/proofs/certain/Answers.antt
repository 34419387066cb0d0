-- What is added is the term of stabilizer i.
use Rattle.std.proofs.Common.{◌≡◌, ◌<◌, ◌+◌, ◌*◌, refl, arith, add-one}
use Rattle.std.proofs.Math.Nat.{add-sub_cancel_left}
use Rattle.tableau.specs.Tableau.{part, row}
use Rattle.tableau.proofs.Parts.{row_at, tableau-row}
use Rattle.measurement.specs.Look.{destabilizer_power}
use Rattle.measurement_look.specs.Sums.{phase_term, phase_sum}
use Rattle.measurement_look.proofs.certain.Goals as goal

pub loop-i-init : goal.loop-i-init
unfolding phase_sum
loop-i-init c = record { so_far = refl; most = omega arith }

pub phase_term-sum-requires-clause-row : goal.phase_term-sum-requires-clause-row
unfolding part
phase_term-sum-requires-clause-row c =
    simp add-sub_cancel_left (tableau-row c.args.d c.args.n c.args.t.now c.requires.tableau (c.args.n + c.loop-i.i) (omega arith))

pub loop-i-preserved : goal.loop-i-preserved
unfolding part phase_sum
loop-i-preserved c =
    let a = c.args in
    let i = c.loop-i.i in
    let inside : a.q < 2 * a.n + 1 = omega arith in
    let added : c.phase_term-sum.result ≡ phase_term a.d a.n (destabilizer_power a.n a.t.now a.q i) (row a.n a.t.now (a.n + i)) =
    rw (row_at a.n a.t.now i a.q inside) (simp add-sub_cancel_left at c.phase_term-sum.ensures.term) in
    record {
      so_far = rw (add-one i, c.loop-i.invariant.so_far, added);
      most = omega arith;
    }
