-- What the proofs of several functions use.
pub mod Lane
