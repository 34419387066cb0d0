-- What the proofs of several functions use.
pub mod Steps
pub mod Counting
