-- The theorem on the definitions.
pub mod Exactly
