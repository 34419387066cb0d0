-- What the proofs of several functions use.
pub mod Phases
pub mod Rows
