pub mod Halting
pub mod Looking
