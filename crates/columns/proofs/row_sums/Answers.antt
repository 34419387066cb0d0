use Rattle.std.proofs.Common.{◌≡◌, List, ℕ, ◌-◌, ◌*◌, ◌∙◌, length, take, drop, ap, arith, length-take, length-drop}
use Rattle.row.proofs.Laws.{powers_of}
use Rattle.row.specs.Row.{dot}
use Rattle.tableau.specs.Tableau.{row}
use Rattle.tableau.proofs.Parts.{tableau-row}
use Rattle.dots.specs.Dots.{combined}
use Rattle.columns.proofs.Laying.{small_part}
use Rattle.columns.proofs.Pairing.{plus-dot, minus-dot}
use Rattle.columns.proofs.row_sums.Goals as goal

pub add_dots-requires-clause-factors : goal.add_dots-requires-clause-factors
add_dots-requires-clause-factors c =
    rw c.row-v.ensures.value
    (small_part c.args.n c.args.n _ _ (powers_of (tableau-row _ _ _ c.requires.rows.tableau c.args.i c.requires.there)) (omega arith))

pub add_dots-requires-2-clause-factors : goal.add_dots-requires-2-clause-factors
add_dots-requires-2-clause-factors c =
    rw c.row-v.ensures.value
    (small_part c.args.n 0 _ _ (powers_of (tableau-row _ _ _ c.requires.rows.tableau c.args.i c.requires.there)) (omega arith))

pub returns : goal.returns
returns c =
    let a = c.args in
    let v = c.row-v.result.now in
    let plus : length (take (2 * a.n - a.n) (drop a.n v)) ≡ a.n = simp (length-take, length-drop) (omega arith) in
    let minus : length (take a.n v) ≡ a.n = simp length-take (omega arith) in
    record {
      plus_sum = λ j p.
          c.add_dots.ensures.sum j (omega arith)
          ∙ ap (combined _ _ j) plus
          ∙ plus-dot a.n a.t.now a.columns.now c.requires.laid v j (omega arith) (2 * a.n - a.n) a.n (omega arith) (omega arith)
          ∙ ap (λ (x : List ℕ). dot a.n x (row a.n a.t.now j) a.n) c.row-v.ensures.value;
      minus_sum = λ j p.
          c.add_dots-2.ensures.sum j (omega arith)
          ∙ ap (combined _ _ j) minus
          ∙ minus-dot a.n a.t.now a.columns.now c.requires.laid v j (omega arith) (128 - a.n) a.n (omega arith) (omega arith)
          ∙ ap (λ (x : List ℕ). dot a.n (row a.n a.t.now j) x a.n) c.row-v.ensures.value;
    }
