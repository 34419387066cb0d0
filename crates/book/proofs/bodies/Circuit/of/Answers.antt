-- What the reader has let through is an accepted circuit.
use Rattle.std.proofs.Common.{◌≡◌, List, ℕ, refl, sym, ◌∙◌}
use Rattle.book_body.specs.declared.Numbers.{Numbers}
use Rattle.book_body.specs.Body.{accepted}
use Rattle.book.specs.Book.{read_book}
use Rattle.book.specs.Decoded.{measurements_in}
use Rattle.book.proofs.Handed.{Handed, handed-reads, bodies_of}
use Rattle.book.proofs.bodies.Circuit.of.Goals as goal

given : (s : List ℕ) (b : Numbers) → read_book s ≡ accepted b.d b.n b.operations b.errors b.choices
    → Handed s b.d b.n (measurements_in s b.d b.n)
given s b reads = handed-reads s reads refl

pub operations-requires : goal.operations-requires
operations-requires c = let g = given _ c.args.numbers c.requires in (g.bodies.room, g.bodies.first)

pub errors-requires : goal.errors-requires
errors-requires c = let g = given _ c.args.numbers c.requires in (g.bodies.room, g.bodies.second)

pub choices-requires : goal.choices-requires
choices-requires c = let g = given _ c.args.numbers c.requires in (g.bodies.room, g.bodies.third)

pub returns-clause-accepted : goal.returns-clause-accepted
returns-clause-accepted c =
    let b = bodies_of c.args.book.now (given _ c.args.numbers c.requires) c.operations.ensures c.errors.ensures c.choices.ensures in
    record { dimension = b.dimension; qudits = b.qudits; lists = b.lists }

pub returns-clause-ops : goal.returns-clause-ops
returns-clause-ops c = c.operations.ensures ∙ sym (given _ c.args.numbers c.requires).first

pub returns-clause-errors : goal.returns-clause-errors
returns-clause-errors c = c.errors.ensures ∙ sym (given _ c.args.numbers c.requires).second

pub returns-clause-choices : goal.returns-clause-choices
returns-clause-choices c = c.choices.ensures ∙ sym (given _ c.args.numbers c.requires).third

pub returns-clause-few : goal.returns-clause-few
returns-clause-few c = rw c.choices.ensures (given _ c.args.numbers c.requires).few
