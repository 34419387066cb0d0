-- What other proofs use.
pub mod View
pub mod Keeping
