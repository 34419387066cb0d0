-- What the proofs of several functions use.
pub mod Parts
pub mod Sized
