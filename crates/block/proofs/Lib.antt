-- What the proofs of several functions use.
pub mod Carried
pub mod Results
