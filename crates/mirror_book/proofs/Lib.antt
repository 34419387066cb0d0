-- Worked cases; what other proofs use of the mirror's operations and of a body's bytes.
pub mod Cases
pub mod Mirrored
pub mod Body
