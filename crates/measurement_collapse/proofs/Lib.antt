-- What the proofs of several functions use.
pub mod Exponents
pub mod Sweep
pub mod Powers
