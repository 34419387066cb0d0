-- What is not refused by 2 to 7 fits, and is laid out where the buffer is not short.
use Rattle.std.proofs.Common.{sym, arith}
use borrow.Author.Tests.{le-leb, lt-leb}
use Rattle.std.proofs.lemmas.Result.{err_from_is_err_and}
use Rattle.written_book.specs.Writer.{write_by_answer, write_book}
use Rattle.written_book.proofs.Read.{book-length, reads-written}
use Rattle.written_book.proofs.Parts.{parts-passed}
use Rattle.writer.proofs.Parts.write.Goals as goal

pub returns-in_err-read : goal.returns-in_err-read
unfolding write_book write_by_answer
returns-in_err-read c =
    let p = err_from_is_err_and c.from_residual.result c.from_residual.ensures.1 in
    rw (p.1, p.2, reads-written _ _ _ _ _, ← c.in_err-read.ensures)

pub overflow_add-size-2 : goal.overflow_add-size-2
overflow_add-size-2 c = let f = parts-passed _ _ _ _ _ (sym c.in_ok-read.ensures) in omega (arith, f.operations-most, f.errors-most)

pub overflow_add-size-3 : goal.overflow_add-size-3
overflow_add-size-3 c =
    let f = parts-passed _ _ _ _ _ (sym c.in_ok-read.ensures) in omega (arith, f.operations-most, f.errors-most, f.choices-most)

pub returns-then-out-size : goal.returns-then-out-size
unfolding write_book write_by_answer
returns-then-out-size c =
    rw (reads-written _ _ _ _ _, ← c.in_ok-read.ensures, book-length _ _ _ _ _, lt-leb _ _ c.if-out-size.true)

pub lay_book-requires : goal.lay_book-requires
lay_book-requires c =
    let f = parts-passed _ _ _ _ _ (sym c.in_ok-read.ensures) in
    record {
      dimension_byte = f.dimension-byte;
      qudits_byte = f.qudits-byte;
      few_operations = f.operations-most;
      few_errors = f.errors-most;
      few_choices = f.choices-most;
      room = c.if-out-size.false;
    }

pub returns : goal.returns
unfolding write_book write_by_answer
returns c =
    rw (
      reads-written _ _ _ _ _,
      ← c.in_ok-read.ensures,
      c.lay_book.ensures,
      book-length _ _ _ _ _,
      le-leb _ _ c.if-out-size.false,
    )
