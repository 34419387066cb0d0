-- Worked cases; what other proofs use; the bytes of an operation; the test of an entry.
pub mod Cases
pub mod Decoding
pub mod Fitting
