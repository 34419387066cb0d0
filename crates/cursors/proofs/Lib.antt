-- What the cursors of a number say of a run.
pub mod Cursors
