-- What the proofs of several functions use.
pub mod Rows
