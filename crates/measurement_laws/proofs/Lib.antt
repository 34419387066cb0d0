-- Measurements of valid tableaus.
pub mod Combination
pub mod Looks
pub mod Certain
pub mod Free
pub mod Generates
pub mod Sets
