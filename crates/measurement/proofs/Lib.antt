-- What other proofs use, and worked cases.
pub mod Combination
pub mod Collapsed
pub mod Worked
