pub mod Sizes
pub mod Verdict
