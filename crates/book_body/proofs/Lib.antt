-- Worked cases; what other proofs use.
pub mod Cases
pub mod Count
pub mod Plain
pub mod Sound
pub mod Answers
