-- An accepted book's bodies lie within it.
use Rattle.std.proofs.Common.{◌≡◌, List, ℕ, false, Result, Ok, Err, sym}
use Rattle.std.specs.Result.{is_err}
use Rattle.answer.specs.declared.Refusal.{Refusal}
use Rattle.book_body.specs.declared.Numbers.{Numbers}
use Rattle.book_body.specs.Body.{answer_of}
use Rattle.book_body.proofs.Sound.{no_refusal}
use Rattle.book.specs.Book.{read_book}
use Rattle.book.proofs.Contents.{all-passed, Inside, inside}
use Rattle.book.proofs.body.Goals as goal

lies : (s : List ℕ) (r : Result Numbers Refusal) → answer_of r ≡ read_book s → false ≡ is_err r → Inside s
lies s (Ok b) e t = let p = all-passed s (no_refusal _ _ _ _ _) (sym e) in inside s p.head p.contents
lies s (Err r) e t = cc

pub operations-requires : goal.operations-requires
operations-requires c = let i = lies _ c.read.result c.read.ensures.answer c.if-is_err.ensures.value in (i.room, i.first)

pub errors-requires : goal.errors-requires
errors-requires c = let i = lies _ c.read.result c.read.ensures.answer c.if-is_err.ensures.value in (i.room, i.second)

pub choices-requires : goal.choices-requires
choices-requires c = let i = lies _ c.read.result c.read.ensures.answer c.if-is_err.ensures.value in (i.room, i.third)
