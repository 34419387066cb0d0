-- Worked cases, and what the proofs of several functions use.
pub mod Cases
pub mod Ends
pub mod Books
