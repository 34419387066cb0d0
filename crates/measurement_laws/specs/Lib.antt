pub mod Stabilizers
pub mod Measurement
