use Rattle.written_book.specs.Written.{head_of}
use Rattle.writer.proofs.head_of.Goals as goal

pub returns : goal.returns
unfolding head_of
returns c =
    rw (
      c.copy_from_slice.ensures.after,
      c.copy_from_slice-2.ensures.after,
      c.copy_from_slice-3.ensures.after,
      c.copy_from_slice-4.ensures.after,
      c.entry_of.ensures,
      c.entry_of-2.ensures,
      c.entry_of-3.ensures,
    )
