pub mod Measured
pub mod Outcome
pub mod Supplied
