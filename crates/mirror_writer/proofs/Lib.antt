-- What the proofs of functions use.
pub mod Entry
pub mod Written
pub mod Books
