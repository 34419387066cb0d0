-- What a certain outcome comes from.
pub mod Sums
