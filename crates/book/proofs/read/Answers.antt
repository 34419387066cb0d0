-- A book whose header fits has its table of contents, and one whose contents fit has the three bodies.
use Rattle.std.proofs.Common.{◌≡◌, ◌≤◌, length, List, ℕ, Bool, true, None, Option, sym, ◌∙◌, arith}
use Rattle.book.specs.Book.{header_fits, bad_contents}
use Rattle.book.proofs.Contents.{head-room, Inside, inside}
use Rattle.book.proofs.read.Goals as goal

room : (s : List ℕ) {fits : Bool} → fits ≡ header_fits s → fits ≡ true → 22 ≤ length s
room s e h = head-room s (sym e ∙ h)

lies : (s : List ℕ) {fits : Bool} {bad : Option ℕ} → fits ≡ header_fits s → fits ≡ true → bad ≡ bad_contents s → bad ≡ None → Inside s
lies s e h f n = inside s (sym e ∙ h) (sym f ∙ n)

pub bounds-book-1 : goal.bounds-book-1
bounds-book-1 c = omega (arith, room _ c.header_fits.ensures c.if-not-header_fits.false)

pub bounds-book-2 : goal.bounds-book-2
bounds-book-2 c = omega (arith, room _ c.header_fits.ensures c.if-not-header_fits.false)

pub bad_contents-requires : goal.bad_contents-requires
bad_contents-requires c = room _ c.header_fits.ensures c.if-not-header_fits.false

pub operations-requires : goal.operations-requires
operations-requires c = let i = lies _ c.header_fits.ensures c.if-not-header_fits.false c.bad_contents.ensures c.in_default.is in (i.room, i.first)

pub errors-requires : goal.errors-requires
errors-requires c = let i = lies _ c.header_fits.ensures c.if-not-header_fits.false c.bad_contents.ensures c.in_default.is in (i.room, i.second)

pub choices-requires : goal.choices-requires
choices-requires c = let i = lies _ c.header_fits.ensures c.if-not-header_fits.false c.bad_contents.ensures c.in_default.is in (i.room, i.third)
